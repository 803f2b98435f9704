pub mod Maps
pub mod Scope
pub mod Term
pub mod Ranges
pub mod Laws
pub mod Prelude
