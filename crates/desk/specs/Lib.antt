pub mod Tally
pub mod Holding
pub mod Blanks
pub mod Empty
pub mod Account
pub mod Replies
pub mod Opening
