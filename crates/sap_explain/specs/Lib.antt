pub mod Comments
pub mod Explanation
pub mod Explained
pub mod Examples
