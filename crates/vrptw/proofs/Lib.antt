pub mod Answering
pub mod TreeTexts
pub mod Closed
pub mod FromTexts
