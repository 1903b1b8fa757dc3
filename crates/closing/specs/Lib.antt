pub mod Depths
pub mod Closing
pub mod Growing
