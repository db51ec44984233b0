-- What laws, and contracts inside the crates, speak of. No clause of `kexec` reaches it: it need not be believed.
pub mod Gathered
pub mod Loads
pub mod Index
pub mod Image
pub mod Joined
pub mod Texts
pub mod FileHeader
pub mod Section
pub mod Symbol
pub mod Runs
pub mod Reloc
pub mod Object
