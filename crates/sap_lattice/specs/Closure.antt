-- The order that names and pairs give.
use Rattle.std.specs.Prelude.{◌<◌, ℕ, List, [], length, slice_index_or, Contains}
use Rattle.sap_lattice.specs.declared.pair.Pair.{Pair}

-- A name is at or below another in the reflexive transitive closure of the pairs.
pub data AtOrBelow (pairs : List Pair) : List ℕ → List ℕ → Type 0 where
  itself : {a : List ℕ} → AtOrBelow pairs a a
  given : (p : Pair) → Contains pairs p → AtOrBelow pairs p.lower p.upper
  through : {a b c : List ℕ} → AtOrBelow pairs a b → AtOrBelow pairs b c → AtOrBelow pairs a c

-- `name_at` is the name at a place, from 0.
abbrev pub name_at : List (List ℕ) → ℕ → List ℕ
name_at names x = slice_index_or names x []

-- A level is the place of a name, from 0.
abbrev pub IsLevel : List (List ℕ) → ℕ → Type 0
IsLevel names x = x < length names

-- Level `x` is at or below level `y`.
abbrev pub Below : List (List ℕ) → List Pair → ℕ → ℕ → Type 0
Below names pairs x y = AtOrBelow pairs (name_at names x) (name_at names y)

-- `u` is a level at or above both x and y.
pub record IsUpperBound (names : List (List ℕ)) (pairs : List Pair) (x y u : ℕ) : Type 0 where
  pub level : IsLevel names u
  pub left : Below names pairs x u
  pub right : Below names pairs y u

-- `j` is the least upper bound of x and y: at or above both, and at or below each upper bound of both.
pub record IsJoin (names : List (List ℕ)) (pairs : List Pair) (x y j : ℕ) : Type 0 where
  pub upper : IsUpperBound names pairs x y j
  pub least : (u : ℕ) → IsUpperBound names pairs x y u → Below names pairs j u

-- `b` is a level at or below every level.
pub record IsLeast (names : List (List ℕ)) (pairs : List Pair) (b : ℕ) : Type 0 where
  pub level : IsLevel names b
  pub below : (x : ℕ) → IsLevel names x → Below names pairs b x

-- `t` is a level at or above every level.
pub record IsGreatest (names : List (List ℕ)) (pairs : List Pair) (t : ℕ) : Type 0 where
  pub level : IsLevel names t
  pub above : (x : ℕ) → IsLevel names x → Below names pairs x t
