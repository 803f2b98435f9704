pub mod ProgramSites
pub mod Numbering
pub mod Once
pub mod Examples
