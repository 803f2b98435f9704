pub mod Inputs
pub mod Programs
pub mod Falls
pub mod Refused
pub mod Served
