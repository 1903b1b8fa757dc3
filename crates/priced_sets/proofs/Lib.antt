pub mod Rising
pub mod Sums
pub mod Admitting
