-- What rows tell of names and pairs.
use Rattle.std.specs.Prelude.{◌≡◌, ◌<◌, ◌⊎◌, ◌↔◌, ℕ, true, Some, List, length, slice_get, Contains}
use Rattle.sap_lattice.specs.declared.pair.Pair.{Pair}
use Rattle.sap_lattice.specs.Closure.{Below, IsLevel, name_at}
use Rattle.sap_lattice.specs.Rows.{tells}

-- The names of the pair are those of levels x and y.
pub record ArePlaces (names : List (List ℕ)) (p : Pair) (x y : ℕ) : Type 0 where
  pub lower_level : IsLevel names x
  pub upper_level : IsLevel names y
  pub lower_name : name_at names x ≡ p.lower
  pub upper_name : name_at names y ≡ p.upper

-- A name of the pair is no level's.
abbrev pub IsUnknown : List (List ℕ) → Pair → Type 0
IsUnknown names p = ¬ Contains names p.lower ⊎ ¬ Contains names p.upper

-- The rows tell what pair j says.
pub record Told (names : List (List ℕ)) (pairs : List Pair) (rows : List ℕ) (j : ℕ) : Type 0 where
  pub pair : Pair
  pub is_pair : slice_get pairs j ≡ Some pair
  pub lower : ℕ
  pub upper : ℕ
  pub places : ArePlaces names pair lower upper
  pub told : tells rows lower upper ≡ true

-- The rows tell that each level is below itself and what the first k pairs say, and nothing that does not follow from
-- the pairs.
pub record TellsPairs (names : List (List ℕ)) (pairs : List Pair) (k : ℕ) (rows : List ℕ) : Type 0 where
  pub count : length rows ≡ length names
  pub itself : (x : ℕ) → IsLevel names x → tells rows x x ≡ true
  pub told : (j : ℕ) → j < k → Told names pairs rows j
  pub only : (x y : ℕ) → tells rows x y ≡ true → IsLevel names x × IsLevel names y × Below names pairs x y

-- The rows tell the order that the pairs give.
pub record TellsOrder (names : List (List ℕ)) (pairs : List Pair) (rows : List ℕ) : Type 0 where
  pub count : length rows ≡ length names
  pub order : (x y : ℕ) → IsLevel names x → IsLevel names y → (tells rows x y ≡ true) ↔ Below names pairs x y
