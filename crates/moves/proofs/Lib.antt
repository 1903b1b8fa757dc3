pub mod Searching
pub mod Swaps
pub mod JoinedStops
pub mod ExactValues
pub mod SwapCosts
pub mod FlankChanges
