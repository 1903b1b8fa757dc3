pub mod Weighing
pub mod Places
pub mod Routing
pub mod Building
