pub mod Accepting
pub mod Settling
pub mod Demands
