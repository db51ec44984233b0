pub mod Apps
pub mod Given
pub mod Numbers
pub mod Values
pub mod Meaning
pub mod inner
