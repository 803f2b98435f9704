-- The changes that stand in lines next to one another.
use Rattle.std.specs.Prelude.{◌≡◌, ◌≤◌, ℕ, List, true, length}
use Rattle.sap_wave.specs.Digits.{bits_number}
use Rattle.sap_wave.specs.Lines.{ended, change, form_text, is_formed, IsLine}
use Rattle.sap_wave.specs.Pieces.{IsCut}
use Rattle.sap_wave.specs.Reading.{State, in_block}

-- The first line of a text is this change, whose digits spell the number where they are 64 at most.
pub record IsChangeAt (text digits id : List ℕ) (number : ℕ) (behind : List ℕ) : Type 0 where
  pub line : IsCut 10 text (form_text (change digits id)) behind
  pub formed : is_formed (change digits id) ≡ true
  pub spells : length digits ≤ 64 → number ≡ bits_number digits

-- A line is no change.
abbrev pub IsOther : (line : List ℕ) → Type 0
IsOther line = (digits id : List ℕ) → IsLine (ended line) (change digits id) → ⊥

-- The first line of a text is none, or has no LF.
abbrev pub IsNoChange : (text : List ℕ) → Type 0
IsNoChange text = (line behind : List ℕ) → IsCut 10 text line behind → IsOther line

-- Where a block is open, the line is no change.
abbrev pub IsOtherIn : State → (line : List ℕ) → Type 0
IsOtherIn (in_block xs o) line = IsOther line
IsOtherIn _ line = Unit {0}

-- Where a block is open, the first line of the text is no change, or has no LF.
abbrev pub AreChangesRead : State → (text : List ℕ) → Type 0
AreChangesRead (in_block xs o) text = IsNoChange text
AreChangesRead _ text = Unit {0}
