pub mod Numbers
pub mod Signed
pub mod Floats
pub mod Vertices
pub mod Normals
pub mod Layouts
pub mod Lengths
pub mod Editions
