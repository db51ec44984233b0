pub mod Lines
pub mod Rows
pub mod Tables
pub mod Values
