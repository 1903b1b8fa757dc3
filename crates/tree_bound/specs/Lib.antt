pub mod Cover
pub mod Labels
pub mod Steps
pub mod Leaves
pub mod Grains
pub mod Nodes
pub mod Settings
