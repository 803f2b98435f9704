pub mod Lexemes
pub mod Lexing
pub mod Spelling
