-- What a file says of the fault that it has. Want of memory is no fault of a file.
use Rattle.std.specs.Prelude.{◌≡◌, ℕ, List}
use Rattle.sap_lattice.specs.Levels.{Levels}
use Rattle.sap_latfile.specs.LatticeFile.{FirstFault, IsLatticeOfFile}
use Rattle.sap_latfile.specs.declared.fault.LatFileFault.{LatFileFault}

-- A file has at most one first fault.
abbrev pub OneFault : Type 0
OneFault = (bytes : List ℕ) (one other : LatFileFault) → FirstFault bytes one → FirstFault bytes other → one ≡ other

-- And none where it is a lattice.
abbrev pub NotBoth : Type 0
NotBoth = (bytes : List ℕ) (l : Levels) (fault : LatFileFault) → IsLatticeOfFile bytes l → FirstFault bytes fault → ⊥
