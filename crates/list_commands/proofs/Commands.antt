pub mod Check
pub mod Dump
pub mod Exec
pub mod Trace
pub mod Migrate
