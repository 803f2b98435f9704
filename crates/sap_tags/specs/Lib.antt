pub mod Built
pub mod Starts
