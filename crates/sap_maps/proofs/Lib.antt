pub mod Terms
pub mod Scopes
pub mod ScopeLemmas
