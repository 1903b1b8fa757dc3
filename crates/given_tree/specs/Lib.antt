pub mod Faults
pub mod Nodes
pub mod Growing
