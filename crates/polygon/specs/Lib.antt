pub mod Normal
pub mod Polygon
pub mod Due
pub mod Rim
