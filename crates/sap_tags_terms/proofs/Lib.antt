pub mod Words
pub mod Listed
pub mod Alone
pub mod Few
pub mod Ranged
