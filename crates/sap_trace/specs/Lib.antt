pub mod Lines
pub mod Seen
pub mod Rooms
pub mod Shows
pub mod Given
pub mod TraceOf
pub mod Stepping
pub mod Examples
