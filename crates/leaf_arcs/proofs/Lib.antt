pub mod Deciding
pub mod Remembered
pub mod Flooring
