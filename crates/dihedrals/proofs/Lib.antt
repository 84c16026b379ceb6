pub mod Rows
pub mod Faces
pub mod Quarters
