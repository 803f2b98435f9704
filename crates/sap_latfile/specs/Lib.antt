pub mod Document
pub mod FaultTexts
pub mod LatticeFile
pub mod OneFault
pub mod OneLattice
pub mod Wrapped
