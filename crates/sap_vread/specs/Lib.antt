pub mod Codes
pub mod FaultTexts
pub mod ModuleFault
pub mod Build
