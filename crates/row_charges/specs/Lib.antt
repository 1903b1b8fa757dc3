pub mod Bits
pub mod Rows
