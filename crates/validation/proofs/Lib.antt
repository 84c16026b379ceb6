pub mod Hanging
pub mod Fronts
pub mod Naming
pub mod Tilings
pub mod EdgeCounts
pub mod Deciding
