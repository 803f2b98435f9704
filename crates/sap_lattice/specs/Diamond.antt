-- The lattice of four levels: low is below a and b, these are below high, and neither of them is below the other.
use Rattle.std.specs.Prelude.{ℕ, Bool, true, false, List, [], ◌∷◌, codes}
use Rattle.sap_lattice.specs.Levels.{Levels}
use Rattle.sap_lattice.specs.declared.pair.Pair.{Pair}

-- The levels, in the order of a lattice file.
abbrev pub level_names : List (List ℕ)
level_names = codes "low" ∷ codes "a" ∷ codes "b" ∷ codes "high" ∷ []

-- A pair of a lattice file: the first level is below the second.
abbrev pub pair : (lower upper : List ℕ) → Pair
pair lower upper = record { lower = lower; upper = upper }

-- The pairs of levels, the lower one first, that give the order.
abbrev pub level_pairs : List Pair
level_pairs = pair (codes "low") (codes "a") ∷ pair (codes "low") (codes "b")
    ∷ pair (codes "a") (codes "high") ∷ pair (codes "b") (codes "high") ∷ []

-- Whether the level of each row is at or below each level.
abbrev pub table : List (List Bool)
table = (true ∷ true ∷ true ∷ true ∷ [])
    ∷ (false ∷ true ∷ false ∷ true ∷ [])
    ∷ (false ∷ false ∷ true ∷ true ∷ [])
    ∷ (false ∷ false ∷ false ∷ true ∷ [])
    ∷ []

-- The lattice of these names and pairs.
unfoldable pub diamond : Levels
diamond = record { names = level_names; table = table }
