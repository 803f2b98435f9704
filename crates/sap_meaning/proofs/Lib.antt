pub mod Bools
pub mod Slots
pub mod Trees
pub mod Paths
pub mod Commands
pub mod Keeps
pub mod Holding
mod Listed
pub mod Fitting
mod Rising
mod Computed
pub mod Sampled
pub mod FineLemmas
pub mod ProgramLemmas
pub mod SitesLemmas
pub mod WalksLemmas
pub mod StoreLemmas
