pub mod SiteLists
pub mod PointLists
pub mod Counts
pub mod Accepted
pub mod OneFault
pub mod FaultsLemmas
pub mod EntityNames
pub mod SiteEntities
