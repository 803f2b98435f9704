pub mod Laws
pub mod Confinement
pub mod Hiding
pub mod Designs
pub mod Once
pub mod CheckSites
