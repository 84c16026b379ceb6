pub mod Files
pub mod Rims
pub mod Jobs
pub mod Promises
