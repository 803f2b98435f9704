mod Elements
pub mod Channels
