pub mod Hinges
