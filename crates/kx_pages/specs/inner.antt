-- What laws, and contracts inside the crates, speak of. No clause of `kexec` reaches it: it need not be believed.
pub mod Numbers
pub mod Spans
pub mod Ranges
pub mod Edits
pub mod Items
pub mod Modes
