pub mod Report
pub mod Examples
