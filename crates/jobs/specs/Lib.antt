pub mod Job
pub mod Due
pub mod Cases
