-- What laws, and contracts inside the crates, speak of. No clause of `kexec` reaches it: it need not be believed.
pub mod Load
pub mod Laying
pub mod Opening
pub mod Tables
pub mod Tracking
pub mod Drafts
pub mod OpenLists
pub mod Counted
pub mod Writers
pub mod Beginning
pub mod Held
pub mod Calls
pub mod Laws
