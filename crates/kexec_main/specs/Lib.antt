pub mod Commands
pub mod Call
pub mod inner
