pub mod Given
pub mod Running
pub mod Roles
