-- What laws, and contracts inside the crates, speak of. No clause of `kexec` reaches it: it need not be believed.
pub mod States
pub mod Ready
pub mod Answers
pub mod Loads
pub mod Fillings
pub mod Runs
pub mod Laying
