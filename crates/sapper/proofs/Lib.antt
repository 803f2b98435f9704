pub mod Calls
pub mod Headline
pub mod Waves
pub mod Links
pub mod Taints
pub mod Tidy
pub mod Machines
