pub mod Quote
pub mod Patch
pub mod Due
pub mod Cases
pub mod WrongCalls
