-- How a lattice is kept: by the codes of its levels.
use Rattle.std.specs.Prelude.{◌≡◌, ◌==◌, ℕ, Bool, List, length, map, bit_or}
use Rattle.sap_lattice.specs.Levels.{Levels, numbers, order_of}
use Rattle.sap_lattice.specs.Codes.{code_of, width_of}
use Rattle.sap_lattice.specs.Lawful.{IsLattice}

-- A level is at or below another where its code is within the other's.
abbrev pub table_of : List ℕ → List (List Bool)
table_of codes = map (λ c. map (λ d. bit_or c d == d) codes) codes

-- The levels with these names, of which one is below another as their codes say.
abbrev pub levels_of : List (List ℕ) → List ℕ → Levels
levels_of names codes = record { names = names; table = table_of codes }

-- The parts are those of a lattice.
pub record IsKept (l : Levels) (codes : List ℕ) (width bottom top : ℕ) : Type 0 where
  pub lattice : IsLattice l
  pub codes_are : codes ≡ map (code_of (order_of l)) (numbers (length l.names))
  pub width_is : width ≡ width_of (order_of l)
  pub bottom_is : bottom ≡ (order_of l).bottom
  pub top_is : top ≡ (order_of l).top
