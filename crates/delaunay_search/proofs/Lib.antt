pub mod Lifting
pub mod Placing
pub mod Scanning
pub mod Marking
