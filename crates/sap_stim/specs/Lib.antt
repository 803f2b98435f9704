pub mod Code
pub mod FaultTexts
pub mod Line
pub mod Stimulus
pub mod Fits
pub mod Rows
pub mod Examples
