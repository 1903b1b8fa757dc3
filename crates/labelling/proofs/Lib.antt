pub mod Cover
pub mod Advancing
pub mod Paying
