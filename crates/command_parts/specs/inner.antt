-- What laws, and contracts inside the crates, speak of. No clause of `kexec` reaches it: it need not be believed.
pub mod Ran
pub mod Readers
pub mod Startups
