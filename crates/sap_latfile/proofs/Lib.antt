pub mod Answered
pub mod Items
pub mod OneLattice
