pub mod Gates
pub mod Flat
pub mod Lists
pub mod Same
pub mod Once
