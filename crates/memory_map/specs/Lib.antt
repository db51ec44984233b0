pub mod Rows
pub mod Maps
pub mod Text
pub mod inner
