pub mod Lists
pub mod LevelLines
pub mod PointLines
pub mod SiteLines
