-- What laws, and contracts inside the crate, speak of. No clause of a top call reaches it: it need not be believed.
pub mod Calls
