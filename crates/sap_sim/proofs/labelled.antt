pub mod Levels
pub mod Ports
pub mod Words
pub mod Inputs
pub mod DesignFields
pub mod Registers
pub mod Cycles
pub mod Designs
