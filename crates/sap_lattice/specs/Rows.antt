-- A relation between levels, in rows of bits.
use Rattle.std.specs.Prelude.{◌≡◌, ℕ, Bool, true, ◌==◌, List, length, slice_index, bit_or, if◌then◌else◌}
use Rattle.std.specs.Int.{bit_at}
use Rattle.sap_lattice.specs.Order.{Order}
use Rattle.sap_lattice.specs.Levels.{order_by, level_in}

-- Whether a number has bit y set.
unfoldable pub holds : ℕ → ℕ → Bool
holds set y = bit_at set y == 1

-- Whether row x has bit y set.
unfoldable pub tells : List ℕ → ℕ → ℕ → Bool
tells rows x y = holds (slice_index rows x) y

-- `y` is reached from x by steps that the rows tell.
pub data Reaches (rows : List ℕ) : ℕ → ℕ → Type 0 where
  step : {x y : ℕ} → tells rows x y ≡ true → Reaches rows x y
  along : {x y z : ℕ} → Reaches rows x y → Reaches rows y z → Reaches rows x z

-- Whether the rows tell that x is at or below y; a number that is no row counts as row 0.
unfoldable pub le_in : List ℕ → ℕ → ℕ → Bool
le_in rows x y = tells rows (level_in (length rows) x) (level_in (length rows) y)

-- The order that the rows tell.
unfoldable pub order_in : List ℕ → Order
order_in rows = order_by (length rows) (le_in rows)

-- A row, with what the level k is related to where it has k.
abbrev pub passed : ℕ → ℕ → ℕ → ℕ
passed k next row = if holds row k then bit_or row next else row
