-- What laws, and contracts inside the crates, speak of. No clause of `kexec` reaches it: it need not be believed.
pub mod States
pub mod Codes
pub mod Events
pub mod Steps
pub mod Views
pub mod Soundness
pub mod Sequences
