pub mod Held
pub mod Tags
pub mod Steps
pub mod States
pub mod Declared
pub mod Sizes
pub mod Whole
