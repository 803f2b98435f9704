-- What a lattice is seen as, and its order.
use Rattle.std.specs.Prelude.{ℕ, Bool, false, not, ◌&&◌, ◌||◌, List, [], length, slice_index_or, nat_lt, if◌then◌else◌, find, position, Option, unwrap_or}
use Rattle.std.specs.List.{list_all, range_with_len}
use Rattle.std.specs.Str.{bytes_eq}
use Rattle.sap_lattice.specs.Order.{Order}

-- The names of the levels in the file's order, and in row x at place y whether level x is at or below level y.
pub record Levels : Type 0 where
  pub names : List (List ℕ)
  pub table : List (List Bool)

-- `level_named` is the number of the level of this name, from 0.
abbrev pub level_named : (names : List (List ℕ)) → List ℕ → Option ℕ
level_named names name = position (λ level. bytes_eq level name) names

-- `numbers` are the numbers below n.
abbrev pub numbers : ℕ → List ℕ
numbers n = range_with_len 0 n

-- `every` says whether each number below `n` passes the test.
abbrev pub every : ℕ → (ℕ → Bool) → Bool
every n test = list_all test (numbers n)

-- `first` is the first number below `n` that passes the test, or 0 if there is none.
abbrev pub first : ℕ → (ℕ → Bool) → ℕ
first n test = unwrap_or (find test (numbers n)) 0

-- `u` is at or above both x and y.
abbrev pub is_upper_bound : (ℕ → ℕ → Bool) → ℕ → ℕ → ℕ → Bool
is_upper_bound le x y u = le x u && le y u

-- `j` is the least upper bound of x and y: at or above both, and at or below each upper bound of both.
abbrev pub is_join : ℕ → (ℕ → ℕ → Bool) → ℕ → ℕ → ℕ → Bool
is_join n le x y j = is_upper_bound le x y j && every n (λ u. not (is_upper_bound le x y u) || le j u)

-- `b` is at or below every level.
abbrev pub is_least : ℕ → (ℕ → ℕ → Bool) → ℕ → Bool
is_least n le b = every n (λ x. le b x)

-- `t` is at or above every level.
abbrev pub is_greatest : ℕ → (ℕ → ℕ → Bool) → ℕ → Bool
is_greatest n le t = every n (λ x. le x t)

-- `order_by` is the order of `n` levels that a test for "at or below" gives.
unfoldable pub order_by : ℕ → (ℕ → ℕ → Bool) → Order
order_by n le = record {
  count = n;
  le = le;
  join = λ x y. first n (is_join n le x y);
  bottom = first n (is_least n le);
  top = first n (is_greatest n le);
}

-- A number that is no level counts as level 0.
abbrev pub level_in : ℕ → ℕ → ℕ
level_in n x = if nat_lt x n then x else 0

-- `is_below` says whether level `x` is at or below level `y` in the table.
abbrev pub is_below : List (List Bool) → ℕ → ℕ → Bool
is_below table x y = slice_index_or (slice_index_or table x []) y false

-- `order_of` is the order of a lattice.
unfoldable pub order_of : Levels → Order
order_of l = let n = length l.names in order_by n (λ x y. is_below l.table (level_in n x) (level_in n y))
