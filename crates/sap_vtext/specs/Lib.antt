pub mod Faults
pub mod Grammar
pub mod Items
pub mod Lexing
pub mod Modules
pub mod Names
pub mod Tokens
pub mod Widths
