pub mod Codes
pub mod Questions
