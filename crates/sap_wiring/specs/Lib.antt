pub mod Laws
pub mod Wiring
