-- How a table is kept: for each point and for the root a set of numbers, and for each entity its number in the sets.
use Rattle.std.specs.Prelude.{ℕ, Bool, List, map}
use Rattle.sap_hang.specs.Hang.{Rows}
use Rattle.sap_hang.specs.Sets.{has}
use Rattle.sap_hang.specs.declared.set.Set.{Set}

-- The row of a set: of each class of names, by its first number, whether the set has it.
abbrev pub row_of : (firsts : List ℕ) → Set → List Bool
row_of firsts s = map (λ (x : ℕ). has s x) firsts

-- The rows of several sets.
abbrev pub rows_of : (firsts : List ℕ) → List Set → Rows
rows_of firsts rows = map (λ (s : Set). row_of firsts s) rows
