pub mod Bounds
pub mod Order
pub mod Rounding
