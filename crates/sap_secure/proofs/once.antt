mod Counts
mod Reached
mod Cells
mod Computed
