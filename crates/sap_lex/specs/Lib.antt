pub mod Spelling
pub mod Lexemes
pub mod Lexing
pub mod Spelled
pub mod FaultTexts
