-- The code of a level.
use Rattle.std.specs.Prelude.{◌≡◌, ◌<◌, ◌^◌, ◌+◌, ◌*◌, ℕ, Bool, not, ◌&&◌, ◌==◌, if◌then◌else◌, List, [], ◌∷◌, length, map, filter, bit_or}
use Rattle.std.specs.List.{list_any}
use Rattle.sap_lattice.specs.Order.{Order}
use Rattle.sap_lattice.specs.Levels.{numbers}

-- `x` is at or below y, and is not y itself.
abbrev pub is_strictly_below : Order → ℕ → ℕ → Bool
is_strictly_below o x y = o.le x y && not (x == y)

-- `y` is strictly above x, with no level strictly between.
abbrev pub is_upper_cover : Order → ℕ → ℕ → Bool
is_upper_cover o x y =
    is_strictly_below o x y
    && not (list_any (λ z. is_strictly_below o x z && is_strictly_below o z y) (numbers o.count))

-- A level is meet-irreducible if it isn't the top and has exactly one upper cover.
abbrev pub is_meet_irreducible : Order → ℕ → Bool
is_meet_irreducible o x = not (x == o.top) && (length (filter (is_upper_cover o x) (numbers o.count)) == 1)

-- The meet-irreducible levels, in the file's order.
unfoldable pub meet_irreducibles : Order → List ℕ
meet_irreducibles o = filter (is_meet_irreducible o) (numbers o.count)

-- `width_of` is the number of bits in a code.
abbrev pub width_of : Order → ℕ
width_of o = length (meet_irreducibles o)

-- `number_of` is the number whose bits, from the lowest, are set where the list has true.
abbrev pub number_of : List Bool → ℕ
number_of [] = 0
number_of (b ∷ bs) = (if b then 1 else 0) + 2 * number_of bs

-- The code of x is the set of the meet-irreducibles that x is not at or below.
abbrev pub is_in_code : Order → ℕ → ℕ → Bool
is_in_code o x m = not (o.le x m)

-- The code of x as a number: bit i, from 0, is set if the i-th meet-irreducible level is in the code.
unfoldable pub code_of : Order → ℕ → ℕ
code_of o x = number_of (map (is_in_code o x) (meet_irreducibles o))

-- The laws of codes, for all numbers: a number that is no level counts as level 0.
pub record Codes (o : Order) : Type 0 where
  pub joined : (x y : ℕ) → code_of o (o.join x y) ≡ bit_or (code_of o x) (code_of o y)
  pub within : (x y : ℕ) → (bit_or (code_of o x) (code_of o y) == code_of o y) ≡ o.le x y
  pub small : (x : ℕ) → code_of o x < 2 ^ width_of o
  pub of_bottom : code_of o o.bottom ≡ 0
  pub apart : (x y : ℕ) → x < o.count → y < o.count → code_of o x ≡ code_of o y → x ≡ y
