pub mod Results
pub mod Counts
pub mod inner
