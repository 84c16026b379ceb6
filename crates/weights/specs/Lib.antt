pub mod Weights
pub mod Edges
