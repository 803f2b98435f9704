pub mod Half
pub mod Kept
pub mod Passes
pub mod Able
pub mod Code
pub mod First
