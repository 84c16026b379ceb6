pub mod File
pub mod Record
pub mod Layouts
pub mod Editions
pub mod Steps
