pub mod Growing
pub mod Spelling
pub mod Assembled
pub mod Sorting
pub mod Feeding
pub mod FreeInputs
pub mod Linked
