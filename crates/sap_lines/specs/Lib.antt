pub mod Fetched
pub mod Reader
pub mod Answers
pub mod Follows
pub mod Stepping
