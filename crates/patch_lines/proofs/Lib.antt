pub mod Hanging
pub mod Counting
