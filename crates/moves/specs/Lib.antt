pub mod Values
pub mod Order
pub mod Trees
pub mod Changes
pub mod Costs
pub mod Search
pub mod Flanks
pub mod SecondRoutes
