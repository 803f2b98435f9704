pub mod Lookup
pub mod Parts
pub mod Printed
pub mod Text
