pub mod Bisection
pub mod Runs
