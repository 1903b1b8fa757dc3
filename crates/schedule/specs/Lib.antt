pub mod Solution
pub mod Cheaper
pub mod Marks
