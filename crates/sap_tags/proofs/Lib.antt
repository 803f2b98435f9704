pub mod Commanded
pub mod Planted
pub mod FewArms
pub mod Found
pub mod Starts
