pub mod Designs
pub mod Examples
