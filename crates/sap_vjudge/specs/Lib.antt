pub mod FirstFault
pub mod Best
pub mod Known
pub mod Listed
pub mod Shapes
pub mod Entries
pub mod Tables
