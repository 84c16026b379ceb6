pub mod Call
pub mod Due
