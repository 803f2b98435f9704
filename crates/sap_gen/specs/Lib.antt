pub mod Design
pub mod Stream
pub mod Text
pub mod Running
pub mod Examples
