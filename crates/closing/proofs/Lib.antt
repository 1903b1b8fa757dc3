pub mod Grown
pub mod NoDearer
