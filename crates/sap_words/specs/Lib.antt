pub mod Words
pub mod Table
pub mod Parser
pub mod Headings
pub mod Fits
pub mod Found
