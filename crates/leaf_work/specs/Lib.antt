pub mod Children
pub mod Gathering
pub mod DecidedPrices
pub mod Splitting
pub mod FirstLeaf
pub mod RowPrices
