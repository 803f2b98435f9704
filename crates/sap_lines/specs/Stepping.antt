pub mod Pace
pub mod Followed
pub mod Printed
pub mod Cycles
