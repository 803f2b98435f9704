-- What a file says of the lattice that it is.
use Rattle.std.specs.Prelude.{◌≡◌, ℕ, List}
use Rattle.sap_lattice.specs.Levels.{Levels, order_of}
use Rattle.sap_latfile.specs.LatticeFile.{IsLatticeOfFile}

-- The same names in the same order, and the same order of levels.
pub record AreSame (l m : Levels) : Type 0 where
  pub names : l.names ≡ m.names
  pub order : order_of l ≡ order_of m

-- A file is at most one lattice.
abbrev pub OneLattice : Type 0
OneLattice = (bytes : List ℕ) (l m : Levels) → IsLatticeOfFile bytes l → IsLatticeOfFile bytes m → AreSame l m
