pub mod Flagged
pub mod Narrowing
pub mod Listed
pub mod Recalling
pub mod Stepping
pub mod Charging
