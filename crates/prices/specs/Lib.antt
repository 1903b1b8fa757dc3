pub mod Faults
pub mod ValuedPrices
pub mod Narrowing
pub mod Steps
pub mod Improvements
pub mod Tasks
