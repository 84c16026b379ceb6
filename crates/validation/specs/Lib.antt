pub mod Validation
pub mod Edges
pub mod Totals
