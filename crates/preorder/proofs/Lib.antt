pub mod Beneath
pub mod Turns
pub mod Waiting
pub mod Listing
pub mod TurnByTurn
