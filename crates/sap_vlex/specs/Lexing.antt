-- What the lexer answers.
use Rattle.std.specs.Prelude.{◌≡◌, ℕ, ◌+◌, ◌<◌, ◌≤◌, List, length, drop}
use Rattle.sap_vtext.specs.Lexing.{front, blank, token, bad}
use Rattle.sap_vtext.specs.Tokens.{Kind}
use Rattle.sap_vlex.specs.declared.fault.ReadFault.TheVariants as f
use Rattle.sap_vlex.specs.declared.fault.ReadFault.{ReadFault}
use Rattle.sap_vlex.specs.declared.lexeme.Lexeme.TheVariants as l
use Rattle.sap_vlex.specs.declared.lexeme.Lexeme.{Lexeme}

-- A lexeme is no longer than the text.
abbrev pub IsWithin : List ℕ → Lexeme → Type 0
IsWithin text (l.Blank len) = (0 < len) × (len ≤ length text)
IsWithin text (l.Token kind len) = (0 < len) × (len ≤ length text)
IsWithin text l.Bad = Unit {0}

-- In the text behind the first `from` bytes, tokens and blanks reach up to the byte at this place, and there none of
-- them begins.
pub data IsBadAt : ℕ → List ℕ → ℕ → Type 0 where
  here : {from : ℕ} {bs : List ℕ} → 0 < length bs → front bs ≡ bad → IsBadAt from bs from
  blank_first : {from place : ℕ} {bs : List ℕ} (len : ℕ) → front bs ≡ blank len
      → IsBadAt (from + len) (drop len bs) place → IsBadAt from bs place
  token_first : {from place : ℕ} {bs : List ℕ} (kind : Kind) (len : ℕ) → front bs ≡ token kind len
      → IsBadAt (from + len) (drop len bs) place
      → IsBadAt from bs place

-- The fault is that of the first byte where no token stands.
abbrev pub IsLexFault : List ℕ → ReadFault → Type 0
IsLexFault text (f.V1 place) = IsBadAt 0 text place
IsLexFault text (f.V2 place) = ⊥
IsLexFault text f.Memory = ⊥
