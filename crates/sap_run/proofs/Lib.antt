pub mod Children
pub mod Weights
pub mod Marks
pub mod Runs
pub mod Alone
pub mod Passed
