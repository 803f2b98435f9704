pub mod Narrow
pub mod Code
pub mod Parts
