pub mod Taking
pub mod Files
pub mod Answers
pub mod Entry
pub mod inner
