pub mod StandsFor
pub mod InterfaceNames
pub mod Interface
pub mod Compiled
pub mod Designs
pub mod Prelude
