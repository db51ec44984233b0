-- What laws, and contracts inside the crates, speak of. No clause of `kexec` reaches it: it need not be believed.
pub mod Contents
pub mod Memory
pub mod View
pub mod File
pub mod Frames
pub mod InPlace
pub mod Shortcuts
