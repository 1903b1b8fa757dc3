pub mod Improvements
pub mod LeastCosts
pub mod Narrower
pub mod Values
