mod Names
mod Keeping
mod Designs
mod Stores
mod Hanging
mod Computed
