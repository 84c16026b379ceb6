pub mod Call
pub mod Demands
pub mod Due
pub mod Cases
pub mod WrongCalls
