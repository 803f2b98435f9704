pub mod Tokens
pub mod Along
pub mod Passing
pub mod Commands
pub mod Designs
