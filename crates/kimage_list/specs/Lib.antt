pub mod Load
pub mod Laying
pub mod Tracking
pub mod Calls
pub mod inner
