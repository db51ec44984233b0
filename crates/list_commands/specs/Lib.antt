pub mod Records
pub mod Check
pub mod Dump
pub mod CrashExec
pub mod Exec
pub mod Trace
pub mod Migrate
pub mod inner
