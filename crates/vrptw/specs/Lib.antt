pub mod Certified
pub mod Answers
pub mod Found
pub mod Closing
pub mod Starting
pub mod GoingOn
pub mod Plans
pub mod Progress
