pub mod Modules
pub mod Laws
pub mod Given
pub mod Linking
pub mod Sizes
pub mod Adding
