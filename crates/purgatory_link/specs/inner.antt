-- What laws, and contracts inside the crates, speak of. No clause of `kexec` reaches it: it need not be believed.
pub mod Relocs
pub mod Taken
pub mod Progress
pub mod Names
pub mod Set
pub mod Meaning
pub mod Tie
