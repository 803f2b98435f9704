pub mod Best
pub mod Blanks
pub mod Lines
pub mod NameTexts
pub mod Names
pub mod Places
pub mod Runs
