pub mod Fields
pub mod Bytes
pub mod Tables
pub mod Formats
