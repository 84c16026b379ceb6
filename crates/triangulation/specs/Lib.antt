pub mod Triangulations
pub mod Problems
pub mod Demand3
pub mod LeastTotal
pub mod Tiling
pub mod Recursion
