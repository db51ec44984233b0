pub mod Refusing
pub mod Stepping
pub mod Wanting
pub mod Passing
