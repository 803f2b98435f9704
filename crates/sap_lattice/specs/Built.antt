-- The lattice of names and pairs.
use Rattle.std.specs.Prelude.{◌≡◌, ◌↔◌, ℕ, List, true}
use Rattle.sap_lattice.specs.declared.pair.Pair.{Pair}
use Rattle.sap_lattice.specs.Closure.{Below, IsLevel, IsJoin, IsLeast, IsGreatest}
use Rattle.sap_lattice.specs.Levels.{Levels, order_of}
use Rattle.sap_lattice.specs.Rules.{KeepsAll}

-- `l` is the lattice of these names and pairs.
pub record IsLatticeOf (names : List (List ℕ)) (pairs : List Pair) (l : Levels) : Type 0 where
  pub kept : KeepsAll names pairs
  pub same_names : l.names ≡ names
  pub order : (x y : ℕ) → IsLevel names x → IsLevel names y → ((order_of l).le x y ≡ true) ↔ Below names pairs x y
  pub join : (x y : ℕ) → IsLevel names x → IsLevel names y → IsJoin names pairs x y ((order_of l).join x y)
  pub bottom : IsLeast names pairs (order_of l).bottom
  pub top : IsGreatest names pairs (order_of l).top
