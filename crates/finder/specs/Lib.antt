pub mod Finding
pub mod Sizes
pub mod Filling
