pub mod Joined
pub mod Seen
pub mod Spelled
pub mod Systems
