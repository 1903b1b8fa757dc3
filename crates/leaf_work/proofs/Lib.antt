pub mod Gathered
pub mod Obeying
pub mod DecidedPrices
pub mod Within
pub mod RowPrices
