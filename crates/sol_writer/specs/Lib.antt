pub mod Text
pub mod Reading
pub mod Laws
