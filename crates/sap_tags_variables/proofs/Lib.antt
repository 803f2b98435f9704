pub mod OfEntities
pub mod Wirings
