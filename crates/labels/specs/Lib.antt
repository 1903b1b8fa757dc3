pub mod Arena
pub mod Cover
pub mod Domination
pub mod Sparing
