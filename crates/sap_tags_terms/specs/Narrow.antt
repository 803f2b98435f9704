-- The widths of a program's numbers.
use Rattle.std.specs.Prelude.{ℕ, ◌≤◌}
use Rattle.sap_program.specs.declared.program.Program.{Program}
use Rattle.sap_program.specs.Views.{entity_in}

-- The number of each entity has at most 64 bits; a state has none, nor has a number past the last entity.
abbrev pub IsNarrow : Program → Type 0
IsNarrow p = (x : ℕ) → (entity_in p x).width ≤ 64
