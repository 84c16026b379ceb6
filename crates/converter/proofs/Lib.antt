pub mod Answers
pub mod Numbers
pub mod Demands
pub mod WrongCalls
