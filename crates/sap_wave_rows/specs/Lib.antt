pub mod Rows
pub mod Places
pub mod Held
pub mod ToCome
pub mod Laws
pub mod Examples
