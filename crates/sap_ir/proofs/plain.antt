pub mod SeatWidths
pub mod Actions
pub mod Tested
pub mod Passes
pub mod Views
pub mod Worked
