pub mod Tilings
pub mod FirstNumber
pub mod Numbers
pub mod Excess
pub mod Deciding
pub mod Demands
pub mod Refusals
pub mod WrongCalls
