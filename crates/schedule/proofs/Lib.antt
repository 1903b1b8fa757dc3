pub mod Marking
mod FittingRoutes
