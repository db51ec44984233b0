pub mod Digits
pub mod Limits
pub mod Taken
pub mod Texts
