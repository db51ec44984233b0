-- What laws, and contracts inside the crates, speak of. No clause of `kexec` reaches it: it need not be believed.
pub mod Cycles
pub mod Plan
pub mod Laws
pub mod Laid
pub mod Stretches
pub mod Arranged
pub mod Refusals
pub mod LinkPages
pub mod Made
