mod Entries
mod Held
mod Fewer
mod Carried
mod Starting
mod Standing
mod Designs
