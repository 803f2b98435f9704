pub mod Lookup
pub mod FillLemmas
pub mod TreeWalks
pub mod SizedLemmas
pub mod WorldsLemmas
