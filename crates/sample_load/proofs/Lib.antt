pub mod Rising
pub mod Strides
pub mod Filled
