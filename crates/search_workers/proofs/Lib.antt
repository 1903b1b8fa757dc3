pub mod Fitting
pub mod Starts
