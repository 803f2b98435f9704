pub mod Declared
pub mod Tested
pub mod Passes
pub mod Views
pub mod IsGuardedLemmas
pub mod PlainLemmas
pub mod TestLemmas
