pub mod Laws
pub mod Ring
pub mod Bounds
pub mod Order
pub mod Rounding
pub mod Newton
