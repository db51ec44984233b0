pub mod Walk
pub mod Faults
pub mod Checked
pub mod Reading
pub mod Crash
pub mod Texts
pub mod inner
