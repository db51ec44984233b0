-- What laws, and contracts inside the crates, speak of. No clause of `kexec` reaches it: it need not be believed.
pub mod Edge
pub mod Rooms
pub mod Slots
pub mod Transfers
pub mod MemoryShelf
pub mod CalmShelf
pub mod MemorySink
pub mod KnownFiles
