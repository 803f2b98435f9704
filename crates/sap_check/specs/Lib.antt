pub mod Sites
pub mod Points
pub mod Lists
pub mod Checked
pub mod Examples
pub mod Faults
pub mod SiteTexts
