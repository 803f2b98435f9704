pub mod Views
pub mod Streams
pub mod Ends
