pub mod NamesLemmas
pub mod BestLemmas
pub mod Runs
pub mod PlaceLemmas
pub mod PairsOfDigits
pub mod ShortTexts
