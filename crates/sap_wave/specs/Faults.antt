-- The faults of a dump, Y1 to Y5, each with the line where it stands.
use Rattle.std.specs.Prelude.{◌≡◌, ◌≢◌, ◌⊎◌, ℕ, ◌+◌, ◌<◌, ◌≤◌, List, [], ◌∷◌, true, false, Some, length}
use Rattle.std.specs.Str.Parse.{digits_value}
use Rattle.sap_maps.specs.Ranges.{IsWidth}
use Rattle.sap_net.specs.Names.{is_name, is_among}
use Rattle.sap_wave.specs.declared.fault.WaveCode.{WaveCode}
use Rattle.sap_wave.specs.declared.fault.WaveCode.TheVariants.{Y1, Y2, Y3, Y4, Y5}
use Rattle.sap_wave.specs.Code.{number}
use Rattle.sap_wave.specs.Digits.{identifier, number_spelled, bits_number}
use Rattle.sap_text.specs.Lines.{Line, lines_of}
use Rattle.sap_wave.specs.Lines.{Form, variable, block, change, IsLine}
use Rattle.sap_wave.specs.declared.variable.Variable.{Variable}
use Rattle.sap_wave.specs.Waves.{names_of}
use Rattle.sap_wave.specs.Reading.{OpenBlock, State, before_timescale, declaring, before_blocks, in_block, is_for, is_first, is_full, width_at, number_now, IsKnown, Takes, after}

-- An identifier that isn't its number's, a width that isn't 1 to 64, no name, a name that stands earlier.
pub data Misdeclared (xs : List Variable) (width id name : List ℕ) : Type 0 where
  other_id : id ≢ identifier (length xs) → Misdeclared xs width id name
  no_width : (IsWidth (digits_value 10 width) → ⊥) → Misdeclared xs width id name
  no_name : is_name name ≡ false → Misdeclared xs width id name
  again : is_among name (names_of xs) ≡ true → Misdeclared xs width id name

-- An unknown identifier, one not after the one before in its block, other than the width's digits.
pub data Misplaced (xs : List Variable) (o : OpenBlock) (digits id : List ℕ) : Type 0 where
  unknown : (IsKnown xs id → ⊥) → Misplaced xs o digits id
  not_later : IsKnown xs id → number_spelled id < o.next → Misplaced xs o digits id
  other_width : IsKnown xs id → length digits ≢ width_at xs (number_spelled id) → Misplaced xs o digits id

-- A change after block 0 to the number that stands.
pub record IsIdle (xs : List Variable) (o : OpenBlock) (digits id : List ℕ) : Type 0 where
  pub later_block : is_first o ≡ false
  pub known : IsKnown xs id
  pub same : number_now o id ≡ Some (bits_number digits)

-- What is wrong with a line whose form has this position. Where the line begins the next block, it is Y5 if a variable
-- lacks a number, which can be so in block 0 alone.
abbrev pub IsWrong : State → Form → WaveCode → Type 0
IsWrong (declaring xs) (variable width id name) Y2 = Misdeclared xs width id name
IsWrong (before_blocks xs) (block n) Y4 = digits_value 10 n ≢ 0
IsWrong (in_block xs o) (block n) Y4 = digits_value 10 n ≢ length o.before + 1
IsWrong (in_block xs o) (block n) Y5 = is_full o.now ≡ false
IsWrong (in_block xs o) (change digits id) Y3 = Misplaced xs o digits id
IsWrong (in_block xs o) (change digits id) Y5 = IsIdle xs o digits id
IsWrong _ _ _ = ⊥

-- What stands at a line: Y1 where it has no LF or isn't of a form for its position.
pub data Stands (s : State) (l : Line) (code : WaveCode) : Type 0 where
  no_form : code ≡ Y1 → ((f : Form) → IsLine l f → is_for s f ≡ false) → Stands s l code
  wrong : (f : Form) → IsLine l f → IsWrong s f code → Stands s l code

-- What stands at the end: Y1 before block 0 begins, Y5 where it lacks a variable.
abbrev pub StandsAtEnd : State → WaveCode → Type 0
StandsAtEnd (in_block xs o) Y5 = is_full o.now ≡ false
StandsAtEnd (in_block xs o) _ = ⊥
StandsAtEnd _ Y1 = Unit {0}
StandsAtEnd _ _ = ⊥

-- The least of the codes that stand.
pub record IsLeast (Stand : WaveCode → Type 0) (code : WaveCode) : Type 0 where
  pub stands : Stand code
  pub least : (other : WaveCode) → Stand other → number code ≤ number other

-- The first of these lines at which something stands, the first of them having the number n, and the code. The end is
-- the line after the last.
abbrev pub StopsFrom : (n : ℕ) → State → List Line → (line : ℕ) → WaveCode → Type 0
StopsFrom n s [] line code = (line ≡ n) × IsLeast (StandsAtEnd s) code
StopsFrom n s (l ∷ ls) line code =
    ((line ≡ n) × IsLeast (Stands s l) code)
    ⊎ ((f : Form) × IsLine l f × Takes s f × StopsFrom (n + 1) (after s f) ls line code)

-- This code at this line is the first fault of these bytes.
pub record IsFault (bytes : List ℕ) (line : ℕ) (code : WaveCode) : Type 0 where
  pub stops : StopsFrom 1 before_timescale (lines_of bytes) line code
