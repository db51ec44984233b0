pub mod Growing
pub mod Replaying
pub mod Recording
pub mod Going
pub mod Handing
pub mod Telling
pub mod Steady
pub mod Judging
