pub mod Spans
pub mod Ahead
pub mod Apart
pub mod Laws
