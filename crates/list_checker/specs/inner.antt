-- What laws, and contracts inside the crates, speak of. No clause of `kexec` reaches it: it need not be believed.
pub mod Laws
pub mod Checked
pub mod Reading
pub mod Texts
pub mod Faults
pub mod Items
