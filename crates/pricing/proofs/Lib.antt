pub mod Accepted
pub mod Settling
pub mod Pricing
pub mod Patching
pub mod Demands
pub mod InTurn
pub mod WrongCalls
