pub mod Counting
pub mod Corners
pub mod Tetrahedra
