-- What laws, and contracts inside the crates, speak of. No clause of `kexec` reaches it: it need not be believed.
pub mod Rows
pub mod Maps
pub mod Walk
pub mod Index
pub mod Reader
pub mod Grammar
