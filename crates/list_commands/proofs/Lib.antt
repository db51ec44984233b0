pub mod Lines
pub mod Executes
pub mod Places
pub mod Reread
pub mod Commands
