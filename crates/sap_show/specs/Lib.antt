pub mod Canonical
pub mod Lists
pub mod Examples
pub mod Reading
