pub mod Placing
pub mod Running
pub mod Machining
pub mod Planning
pub mod Imaging
