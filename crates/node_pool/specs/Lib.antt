pub mod Law
pub mod Owners
pub mod Deques
pub mod Ends
pub mod Stealing
