pub mod Flags
pub mod Payments
pub mod Fronts
pub mod Memories
pub mod Tables
pub mod Steps
pub mod Tasks
