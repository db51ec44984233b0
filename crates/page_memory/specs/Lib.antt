pub mod Contents
pub mod Memory
pub mod Addresses
pub mod File
pub mod inner
