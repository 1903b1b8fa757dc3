pub mod JoinedLists
pub mod TreeLevels
pub mod StopJoins
pub mod RouteChanges
