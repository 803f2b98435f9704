pub mod Kept
pub mod Laws
pub mod Hangs
pub mod Examples
