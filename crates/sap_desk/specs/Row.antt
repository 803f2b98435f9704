-- A buffer of bytes.
use Rattle.std.specs.Prelude.{ℕ, List}

-- The bytes that it holds, and for how many it has memory.
pub record Row : Type 0 where
  pub bytes : List ℕ
  pub room : ℕ
