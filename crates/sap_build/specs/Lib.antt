pub mod Copies
pub mod Laws
pub mod Parts
pub mod SideBySide
pub mod Writing
pub mod Written
pub mod Waiting
pub mod Counting
