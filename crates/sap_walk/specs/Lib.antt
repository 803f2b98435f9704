pub mod Laws
pub mod Limits
pub mod Prefix
pub mod Reached
pub mod Rows
pub mod Walk
