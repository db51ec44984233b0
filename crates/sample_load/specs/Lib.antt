pub mod Draws
pub mod DrawnSegments
pub mod Samples
