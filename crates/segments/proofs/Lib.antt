pub mod Laws
pub mod Steps
pub mod Alike
pub mod Spans
pub mod Area
