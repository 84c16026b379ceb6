pub mod Lists
pub mod Counts
pub mod Sums
