pub mod Tables
pub mod Detours
pub mod Leaving
pub mod Subsets
