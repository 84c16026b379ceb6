pub mod Chain
pub mod Reading
pub mod Order
pub mod Due
pub mod Rounded
pub mod Steps
