pub mod Limits
pub mod Entries
pub mod Numbers
pub mod Order
