pub mod Decisions
pub mod Memories
pub mod Sets
pub mod Props
pub mod Arcs
pub mod Floors
pub mod Leaves
