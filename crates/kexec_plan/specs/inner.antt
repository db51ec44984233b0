-- What laws, and contracts inside the crates, speak of. No clause of `kexec` reaches it: it need not be believed.
pub mod Requests
pub mod Holes
pub mod Places
pub mod Purgatory
pub mod Finish
pub mod Laying
pub mod Ground
pub mod Plan
