pub mod Steps
pub mod Once
pub mod Examples
