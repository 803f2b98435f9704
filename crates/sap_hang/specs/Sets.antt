-- What a set of numbers has.
use Rattle.std.specs.Prelude.{ℕ, ◌/◌, ◌%◌, Bool, get_or, eqb}
use Rattle.std.specs.Int.{bit_at}
use Rattle.sap_hang.specs.declared.set.Set.{Set}

-- The set has the number.
unfoldable pub has : Set → (number : ℕ) → Bool
has s x = eqb (bit_at (get_or s.words.items (x / 64) 0) (x % 64)) 1
