-- The design of a text, and the read fault of a text that has none.
use Rattle.std.specs.Prelude.{ℕ, ◌<◌, ◌≤◌, List, [], ◌∷◌, length}
use Rattle.sap_parse.specs.Fault.{IsDesign, IsUnexpected, IsOver}
use Rattle.sap_lex.specs.Lexing.{AreTokens, IsBadAt}
use Rattle.sap_text.specs.Places.{first_place, place_at}
use Rattle.sap_parse.specs.Limits.{most_bytes}
use Rattle.sap_lex.specs.declared.fault.ReadFault.TheVariants as f
use Rattle.sap_lex.specs.declared.fault.ReadFault.{ReadFault}
use Rattle.sap_lex.specs.declared.limit.Limit.TheVariants as l
use Rattle.sap_lex.specs.declared.limit.Limit.{Limit}
use Rattle.sap_lex.specs.declared.token.Token.{Token}
use Rattle.sap_tree.specs.Syntax.{DesignTree}
use Rattle.sap_text.specs.declared.place.Place.{Place}

-- The text is this design, within the limits.
pub record IsText (text : List ℕ) (design : DesignTree) : Type 0 where
  pub fits : length text ≤ most_bytes
  pub tokens : List Token
  pub lexed : AreTokens text tokens
  pub whole : IsDesign tokens design

-- The place of the first of the tokens that are left, or, where none is left, the one just behind the last byte.
abbrev pub fault_place : List ℕ → List Token → Place
fault_place text [] = place_at text (length text)
fault_place text (token ∷ rest) = token.place

-- The read fault of a text. The limit on its bytes comes first, then the first byte at which no token begins. Then the
-- tokens are taken one after another: the first that cannot follow, unless one before it breaks a limit; or the first
-- that breaks a limit, where all up to it can follow.
pub data IsReadFault (text : List ℕ) : ReadFault → Type 0 where
  too_long : most_bytes < length text → IsReadFault text (f.E18 first_place l.Bytes)
  no_token : {place : Place} → length text ≤ most_bytes → IsBadAt text place → IsReadFault text (f.E1 place)
  unexpected : {tokens left : List Token} → length text ≤ most_bytes → AreTokens text tokens → IsUnexpected tokens left
      → ((rest : List Token) (limit : Limit) → IsOver tokens rest limit → ⊥)
      → IsReadFault text (f.E2 (fault_place text left))
  over : {tokens left : List Token} {limit : Limit} → length text ≤ most_bytes → AreTokens text tokens
      → IsOver tokens left limit
      → IsReadFault text (f.E18 (fault_place text left) limit)
