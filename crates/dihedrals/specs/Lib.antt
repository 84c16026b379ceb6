pub mod Dihedrals
pub mod Lists
