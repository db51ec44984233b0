pub mod Table
pub mod Arguments
pub mod Names
pub mod inner
