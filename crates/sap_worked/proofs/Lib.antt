mod Tested
mod Behind
mod Grounded
mod Rested
