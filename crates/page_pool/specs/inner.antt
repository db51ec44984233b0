-- What laws, and contracts inside the crates, speak of. No clause of `kexec` reaches it: it need not be believed.
pub mod Repeats
pub mod Pages
pub mod Queue
pub mod Marks
pub mod File
pub mod Grammar
