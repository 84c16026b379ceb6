pub mod Run
pub mod Printing
pub mod Demands
