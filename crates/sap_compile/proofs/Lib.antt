pub mod Paths
pub mod Agreeing
pub mod Compared
pub mod Faults
pub mod Texts
