pub mod Finds
pub mod Accepted
pub mod Ready
pub mod Values
pub mod Files
