pub mod Answer
pub mod Search
pub mod Pricings
pub mod PricedRows
