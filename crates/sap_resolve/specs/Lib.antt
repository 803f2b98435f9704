pub mod Rows
pub mod Surroundings
pub mod Lists
