-- The lines of a dump, and their forms.
use Rattle.std.specs.Prelude.{◌≡◌, ℕ, List, [], ◌∷◌, ◌++◌, Bool, true, not, ◌&&◌, ◌||◌, ◌==◌, nat_le, codes, length, slice_index}
use Rattle.std.specs.List.{list_all}
use Rattle.std.specs.Str.{byte}
use Rattle.sap_text.specs.Places.{line}
use Rattle.sap_text.specs.Lines.{Line}
use Rattle.sap_wave.specs.Digits.{are_digits}

-- What lines there are. Numbers, digits and identifiers are as they are written.
pub data Form : Type 0 where
  timescale scope upscope end_definitions : Form
  variable : (width id name : List ℕ) → Form
  block : (number : List ℕ) → Form
  change : (digits id : List ℕ) → Form

-- How a line of a dump is written.
abbrev pub form_text : Form → List ℕ
form_text timescale = codes "$timescale 1ns $end"
form_text scope = codes "$scope module top $end"
form_text upscope = codes "$upscope $end"
form_text end_definitions = codes "$enddefinitions $end"
form_text (variable width id name) = codes "$var reg "
    ++ (width ++ (byte " " ∷ (id ++ (byte " " ∷ (name ++ codes " $end")))))
form_text (block number) = byte "#" ∷ number
form_text (change digits id) = byte "b" ∷ (digits ++ (byte " " ∷ id))

-- Decimal digits, of which the first isn't 0 unless it is alone.
abbrev pub is_number : List ℕ → Bool
is_number text = are_digits 48 10 text && (length text == 1 || not (slice_index text 0 == byte "0"))

-- Bytes from `!` to `~`.
abbrev pub is_id : List ℕ → Bool
is_id text = are_digits 33 94 text

-- A byte or more, and no space.
abbrev pub is_piece : List ℕ → Bool
is_piece text = nat_le 1 (length text) && list_all (λ b. not (b == byte " ")) text

-- The line's numbers, identifiers and names are well formed.
abbrev pub is_formed : Form → Bool
is_formed (variable width id name) = is_number width && (is_id id && is_piece name)
is_formed (block number) = is_number number
is_formed (change digits id) = are_digits 48 2 digits && is_id id
is_formed _ = true

-- The line has an LF and is of this form.
pub record IsLine (l : Line) (f : Form) : Type 0 where
  pub ended : l.ended ≡ true
  pub text : form_text f ≡ l.text
  pub formed : is_formed f ≡ true

-- Lines of these forms.
abbrev pub text_of : List Form → List ℕ
text_of [] = []
text_of (f ∷ fs) = line (form_text f) ++ text_of fs

-- The line of this text with its LF.
abbrev pub ended : (text : List ℕ) → Line
ended text = record { text = text; ended = true }
