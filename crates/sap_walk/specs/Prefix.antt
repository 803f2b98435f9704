-- Where the tokens of a text go wrong, for any grammar: `Reads ts first` says that the tokens are a whole text of the
-- grammar, limits aside, and which of them is the first that breaks a limit, by its number from 0, and which limit, if
-- any.
use Rattle.std.specs.Prelude.{◌≡◌, ℕ, List, [], ◌∷◌, ◌++◌, length, Option, Some}

module _ {Token Limit : Type 0} (Reads : List Token → Option (ℕ × Limit) → Type 0) where
  -- A whole text, limits aside.
  abbrev pub IsWhole : List Token → Type 0
  IsWhole ts = (first : Option (ℕ × Limit)) × Reads ts first

  -- Some whole text begins with these tokens, limits aside.
  abbrev pub Begins : List Token → Type 0
  Begins front = (more : List Token) × IsWhole (front ++ more)

  -- What is left from the first token on after which no whole text can begin with the tokens so far; nothing is left
  -- where the text ends too soon.
  pub data IsUnexpected (ts : List Token) : List Token → Type 0 where
    token : (front : List Token) {t : Token} {rest : List Token} → ts ≡ front ++ t ∷ rest → Begins front
        → (Begins (front ++ t ∷ []) → ⊥)
        → IsUnexpected ts (t ∷ rest)
    end : Begins ts → (IsWhole ts → ⊥) → IsUnexpected ts []

  -- What is left from the first token on that breaks a limit, and that limit: so it is in a whole text that begins with
  -- the tokens up to it.
  pub data IsOver (ts : List Token) : List Token → Limit → Type 0 where
    over : (front : List Token) {t : Token} {rest : List Token} {limit : Limit} → ts ≡ front ++ t ∷ rest
        → (more : List Token) → Reads (front ++ t ∷ more) (Some (length front, limit)) → IsOver ts (t ∷ rest) limit
