pub mod Told
pub mod Outputs
pub mod Leaving
pub mod Again
pub mod Ending
pub mod Alike
pub mod Found
pub mod Reading
