pub mod Counted
pub mod Plans
pub mod Needs
pub mod Checking
