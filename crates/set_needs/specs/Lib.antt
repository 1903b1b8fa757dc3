pub mod Quickest
pub mod Latest
