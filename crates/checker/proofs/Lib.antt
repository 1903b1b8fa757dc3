pub mod Sets
pub mod Passes
pub mod Verdicts
