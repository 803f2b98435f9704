pub mod Counts
mod Designs
mod Sublists
mod Marks
mod Reached
mod InTurn
mod Refused
