-- A text cut at the bytes of one value, and its lines.
use Rattle.std.specs.Prelude.{ℕ, List, [], ◌∷◌, Bool, true, false, ◌==◌, length, if◌then◌else◌}
use Rattle.std.specs.List.{slice_split}

-- The pieces of a text between the bytes of this value: one more than there are such bytes.
abbrev pub split_at : ℕ → List ℕ → List (List ℕ)
split_at mark text = slice_split (λ b. b == mark) text

-- A line without its LF, and whether it has one.
pub record Line : Type 0 where
  pub text : List ℕ
  pub ended : Bool

-- What is behind the last LF is a line without one, unless it is empty.
abbrev pub lines_between : List (List ℕ) → List Line
lines_between [] = []
lines_between (text ∷ []) = if length text == 0 then [] else record { text = text; ended = false } ∷ []
lines_between (text ∷ (next ∷ rest)) = record { text = text; ended = true } ∷ lines_between (next ∷ rest)

-- The lines of a text, each with whether an LF ends it.
unfoldable pub lines_of : List ℕ → List Line
lines_of bytes = lines_between (split_at 10 bytes)
