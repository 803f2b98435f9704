-- What is true of every lattice.
use Rattle.std.specs.Prelude.{◌≡◌, ◌<◌, ℕ, true}
use Rattle.sap_lattice.specs.Order.{Order, Laws}
use Rattle.sap_lattice.specs.Levels.{Levels, order_of}
use Rattle.sap_lattice.specs.Codes.{Codes, width_of}
use Rattle.sap_lattice.specs.Rules.{KeepsNames}

-- No two levels are each at or below the other.
abbrev pub IsAntisymmetric : Order → Type 0
IsAntisymmetric o = (x y : ℕ) → x < o.count → y < o.count → o.le x y ≡ true → o.le y x ≡ true → x ≡ y

-- A code has a bit at least, and fewer bits than there are levels.
pub record IsNarrow (o : Order) : Type 0 where
  pub some : 0 < width_of o
  pub few : width_of o < o.count

-- What each lattice that was built has: sound names, the laws of a lattice, and codes that tell levels apart.
pub record IsLattice (l : Levels) : Type 0 where
  pub names : KeepsNames l.names
  pub laws : Laws (order_of l)
  pub antisymmetric : IsAntisymmetric (order_of l)
  pub codes : Codes (order_of l)
  pub narrow : IsNarrow (order_of l)
