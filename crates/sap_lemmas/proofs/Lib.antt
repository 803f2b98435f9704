pub mod Bools
pub mod Numbers
pub mod Options
pub mod Lists
pub mod Everywhere
pub mod Texts
pub mod Common
