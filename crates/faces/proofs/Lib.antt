pub mod Masks
pub mod Sets
pub mod Threes
pub mod Fours
pub mod Triples
pub mod Members
