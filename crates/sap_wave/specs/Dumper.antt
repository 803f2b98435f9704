-- What a dumper keeps.
use Rattle.std.specs.Prelude.{◌≡◌, ℕ, ◌≤◌, List, length}
use Rattle.sap_wave.specs.Waves.{AreVariables}
use Rattle.sap_wave.specs.Dumping.{Dumping, block_room}

-- One number for each variable, and memory for the numbers of the next block and for so many bytes of its text.
pub record IsDumper (d : Dumping) (numbers : List ℕ) (bytes : ℕ) : Type 0 where
  pub variables : AreVariables d.variables
  pub first : length d.first ≡ length d.variables
  pub last : length d.last ≡ length d.variables
  pub next : length numbers ≡ length d.variables
  pub room : block_room d.variables ≤ bytes
