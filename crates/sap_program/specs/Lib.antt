pub mod Hangs
pub mod Views
pub mod Design
pub mod Prelude
