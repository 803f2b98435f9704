pub mod Systems
pub mod Composites
pub mod Agree
pub mod Laws
pub mod Designs
pub mod Examples
pub mod Comparing
