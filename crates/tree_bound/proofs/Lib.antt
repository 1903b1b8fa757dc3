pub mod Working
pub mod Sets
pub mod Rows
pub mod Valuing
pub mod AtLeaf
pub mod Bounding
pub mod Covering
pub mod Existing
