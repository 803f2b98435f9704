-- Names, and maps from names to numbers.
use Rattle.std.specs.Prelude.{ℕ, List, bytes_eq, if◌then◌else◌}

-- A name is the list of its bytes.
abbrev pub Name : Type 0
Name = List ℕ

-- A valuation has a number for each name, and for each name of a memory one for each of its cells.
pub record Valuation : Type 0 where
  pub value : Name → ℕ
  pub cell : Name → ℕ → ℕ

-- Another number at one name.
abbrev pub set_value : Valuation → Name → ℕ → Valuation
set_value v n x = record { value = λ m. if bytes_eq m n then x else v.value m; cell = v.cell }
