pub mod Starts
pub mod Placing
