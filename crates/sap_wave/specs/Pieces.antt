-- Texts that are cut at a byte.
use Rattle.std.specs.Prelude.{◌≡◌, ℕ, List, ◌∷◌, ◌++◌, Bool, true, not, ◌==◌}
use Rattle.std.specs.List.{list_all}

-- The byte is another than the mark.
abbrev pub is_not : (mark : ℕ) → ℕ → Bool
is_not mark b = not (b == mark)

-- At the first byte of this value.
pub record IsCut (mark : ℕ) (text before behind : List ℕ) : Type 0 where
  pub whole : text ≡ before ++ (mark ∷ behind)
  pub first : list_all (is_not mark) before ≡ true
