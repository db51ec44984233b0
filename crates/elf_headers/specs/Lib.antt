pub mod Numbers
pub mod FileHeader
pub mod ProgramHeader
pub mod inner
