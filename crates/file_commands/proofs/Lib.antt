pub mod Puts
pub mod Steps
pub mod Measured
pub mod Meeting
pub mod Made
pub mod Keeping
pub mod Saying
pub mod Reasons
