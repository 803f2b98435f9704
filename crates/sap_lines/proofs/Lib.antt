pub mod FirstLine
pub mod Ended
pub mod Reading
pub mod Answered
pub mod Following
pub mod Undecided
pub mod Shifting
