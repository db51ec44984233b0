pub mod Boot
pub mod BootResident
pub mod Load
pub mod LoadPanic
pub mod Sample
pub mod Drill
pub mod CoreFile
