mod Given
mod SiteWires
mod Seen
mod Runs
mod Designs
mod Stepping
mod Shows
mod Rooms
