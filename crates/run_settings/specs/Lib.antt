pub mod Generators
pub mod Parts
pub mod Settings
