pub mod Raised
pub mod Pushed
pub mod Picked
