mod Digits
pub mod Decoding
pub mod Helpers
pub mod RightMaps
pub mod Found
pub mod Differing
pub mod Lookups
pub mod Held
pub mod NameTables
pub mod Growing
pub mod Fronts
