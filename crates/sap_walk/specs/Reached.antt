-- How far a list of tokens reaches in a text, for any lexer: `Blank n len` says that a blank or a comment of this
-- length stands at byte n of the text, longest first, and `Stands n t len` that the token t does.
use Rattle.std.specs.Prelude.{ℕ, ◌+◌, List, [], ◌∷◌, ◌++◌}

-- The text up to a place is these tokens, with blanks before, between and after them.
pub data Reached {Token : Type 0} (Blank : ℕ → ℕ → Type 0) (Stands : ℕ → Token → ℕ → Type 0) : ℕ
    → List Token → Type 0 where
  start : Reached Blank Stands 0 []
  blank : {n : ℕ} {ts : List Token} (len : ℕ) → Reached Blank Stands n ts → Blank n len
      → Reached Blank Stands (n + len) ts
  token : {n : ℕ} {ts : List Token} (t : Token) (len : ℕ) → Reached Blank Stands n ts → Stands n t len
      → Reached Blank Stands (n + len) (ts ++ t ∷ [])
