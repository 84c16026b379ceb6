pub mod Candidates
pub mod Accepted
pub mod Answers
