pub mod Carrying
pub mod SparedSteps
