pub mod Views
pub mod DeclLemmas
pub mod SyntaxLemmas
pub mod Weights
