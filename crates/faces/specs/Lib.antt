pub mod Faces
pub mod Masks
