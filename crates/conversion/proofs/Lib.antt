pub mod Storing
pub mod Records
pub mod Targets
pub mod Places
pub mod Rims
pub mod RoundTrip
