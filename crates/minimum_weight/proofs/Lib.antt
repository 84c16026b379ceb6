pub mod Picks
pub mod Edges
pub mod Runs
pub mod Filling
pub mod Answer
