pub mod Signature
pub mod SetupHeader
pub mod Kernel
pub mod inner
