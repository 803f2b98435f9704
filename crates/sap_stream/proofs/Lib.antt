pub mod Spans
pub mod Places
pub mod Agreeing
pub mod Told
pub mod Walk
pub mod SpansLemmas
