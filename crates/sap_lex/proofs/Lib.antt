pub mod Places
pub mod Spelling
pub mod Spelled
pub mod TokenTexts
pub mod Keyed
pub mod OneLexing
