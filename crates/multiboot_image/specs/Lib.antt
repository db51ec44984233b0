pub mod Header
pub mod Parts
pub mod MapRows
pub mod Modules
pub mod Info
pub mod inner
