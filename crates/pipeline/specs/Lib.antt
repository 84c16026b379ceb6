pub mod Finding
pub mod Patching
pub mod Sizes
