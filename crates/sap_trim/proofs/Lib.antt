pub mod Replaced
pub mod Staying
pub mod Follows
pub mod Declared
pub mod Built
pub mod Cycle
mod Counts
pub mod Kept
pub mod Numbered
pub mod Read
pub mod Renamed
pub mod Renaming
pub mod Passes
pub mod Few
pub mod Compose
pub mod Marked
pub mod Loops
pub mod Unread
