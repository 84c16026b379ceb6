pub mod Surfaces
pub mod Edges
pub mod RimEdges
pub mod Quarters
