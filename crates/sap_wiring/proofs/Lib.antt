pub mod Answered
pub mod Feeding
pub mod Fitting
pub mod Judging
pub mod Naming
pub mod Parts
