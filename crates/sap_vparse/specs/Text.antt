-- The file of a module's text, and the read fault of a text that has none.
use Rattle.std.specs.Prelude.{ℕ, List, [], ◌∷◌, length, Option}
use Rattle.sap_vtext.specs.Grammar.{IsFile}
use Rattle.sap_vtext.specs.Items.{File}
use Rattle.sap_vtext.specs.Lexing.{Lexed}
use Rattle.sap_vtext.specs.Tokens.{Token}
use Rattle.sap_vlex.specs.Lexing.{IsBadAt}
use Rattle.sap_vlex.specs.declared.fault.ReadFault.TheVariants as f
use Rattle.sap_vlex.specs.declared.fault.ReadFault.{ReadFault}
use Rattle.sap_walk.specs.Prefix as prefix

-- The text is this file.
pub record IsText (text : List ℕ) (file : File) : Type 0 where
  pub tokens : List Token
  pub lexed : Lexed 0 text tokens
  pub spelled : IsFile tokens file []

-- The tokens are a whole file; no limit is broken, since there is none.
abbrev pub SpellsSome : List Token → Option (ℕ × ⊥) → Type 0
SpellsSome ts first = (file : File) × IsFile ts file []

-- No file begins with the tokens up to the first of those that are left, while one does with those before it; or, where
-- none are left, one begins with all tokens, which are no file.
abbrev pub IsUnexpected : List Token → List Token → Type 0
IsUnexpected ts left = prefix.IsUnexpected SpellsSome ts left

-- The place of the first of the tokens that are left, or, where none is left, just behind the last byte.
abbrev pub fault_place : List ℕ → List Token → ℕ
fault_place text [] = length text
fault_place text (t ∷ rest) = t.place

-- The read fault of a text: the first byte at which no token begins; or, where its bytes are tokens, the first of these
-- that cannot follow.
pub data IsReadFault (text : List ℕ) : ReadFault → Type 0 where
  no_token : {place : ℕ} → IsBadAt 0 text place → IsReadFault text (f.V1 place)
  unexpected : {tokens left : List Token} → Lexed 0 text tokens → IsUnexpected tokens left
      → IsReadFault text (f.V2 (fault_place text left))
