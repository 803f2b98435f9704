pub mod Ahead
pub mod Going
pub mod Beginning
