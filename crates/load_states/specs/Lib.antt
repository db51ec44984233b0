pub mod Exchange
pub mod States
pub mod Ready
pub mod Loads
pub mod Fillings
pub mod Runs
pub mod inner
