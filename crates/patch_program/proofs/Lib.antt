pub mod Rows
pub mod Printing
pub mod Outers
pub mod Demands
pub mod Cases
