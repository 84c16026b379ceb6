pub mod Number
pub mod Pattern
pub mod Point
