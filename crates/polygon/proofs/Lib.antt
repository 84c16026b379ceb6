pub mod Points
pub mod Normals
pub mod Codes
pub mod Validity
pub mod Due
