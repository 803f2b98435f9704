pub mod Falls
pub mod Seen
pub mod Sound
pub mod Machine
pub mod Pair
