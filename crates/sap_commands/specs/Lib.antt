pub mod Link
pub mod Taint
pub mod Twin
pub mod Commands
