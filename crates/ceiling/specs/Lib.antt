pub mod Hands
pub mod Seats
