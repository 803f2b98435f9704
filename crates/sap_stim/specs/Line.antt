-- What a line of a stimulus file gives, or the code that stands in it.
use Rattle.std.specs.Prelude.{ℕ, List, [], ◌∷◌, drop, length, Option, Some, None, Result, Ok, Err, Bool, false, not, nat_lt, nat_le, ◌==◌, ◌&&◌, ◌^◌, ◌≤◌, if◌then◌else◌}
use Rattle.std.specs.Char.{is_ascii_digit}
use Rattle.std.specs.List.{list_all, before_first, after_first}
use Rattle.std.specs.Str.{byte}
use Rattle.std.specs.Str.Parse.{digits_value}
use Rattle.sap_text.specs.Lines.{split_at}
use Rattle.sap_lattice.specs.Levels.{Levels, level_named, order_of}
use Rattle.sap_meaning.specs.Cycle.{Tagged as Given}
use Rattle.sap_stream.specs.Spans.{Span}
use Rattle.sap_stim.specs.declared.fault.StimCode.{StimCode}
use Rattle.sap_stim.specs.declared.fault.StimCode.TheVariants.{S1, S2, S3, S4, S5, S6}
use Rattle.sap_stim.specs.declared.field.Field.{Field}
use Rattle.sap_stim.specs.declared.field.Field.TheVariants.{Tagged, Plain}

-- The width of a field's value, from 1 to 64.
abbrev pub field_width : Field → ℕ
field_width (Tagged width) = width
field_width (Plain width) = width

-- The field's width is 1 to 64.
abbrev pub IsSized : Field → Type 0
IsSized f = (1 ≤ field_width f) × (field_width f ≤ 64)

-- The pieces of a line: split at each space, an empty line has none.
abbrev pub pieces_of : List ℕ → List (List ℕ)
pieces_of [] = []
pieces_of (b ∷ bs) = split_at (byte " ") (b ∷ bs)

-- The piece begins with `*`.
abbrev pub is_starred : List ℕ → Bool
is_starred [] = false
is_starred (b ∷ bs) = b == byte "*"

-- The pieces that are fields: all, but for a last one that begins with `*`.
abbrev pub fields_in : List (List ℕ) → List (List ℕ)
fields_in [] = []
fields_in (piece ∷ []) = if is_starred piece then [] else piece ∷ []
fields_in (piece ∷ (next ∷ pieces)) = piece ∷ fields_in (next ∷ pieces)

-- The fields of a line, without its count.
abbrev pub fields_of : List ℕ → List (List ℕ)
fields_of text = fields_in (pieces_of text)

-- The piece that is the count: a last one that begins with `*`.
abbrev pub count_in : List (List ℕ) → Option (List ℕ)
count_in [] = None
count_in (piece ∷ []) = if is_starred piece then Some piece else None
count_in (piece ∷ (next ∷ pieces)) = count_in (next ∷ pieces)

-- What `f` gives for a value; a fault stays the fault.
abbrev pub and_then : {A B : Type 0} → Result A StimCode → (A → Result B StimCode) → Result B StimCode
and_then (Ok x) f = f x
and_then (Err code) f = Err code

-- The text is 1 to 20 decimal digits.
abbrev pub is_value : List ℕ → Bool
is_value text = list_all is_ascii_digit text && nat_le 1 (length text) && nat_le (length text) 20

-- S1 where the text is no value, S2 where the value isn't below 2 to the width.
abbrev pub value_of : (width : ℕ) → List ℕ → Result ℕ StimCode
value_of width text =
    if not (is_value text) then Err S1
    else (if nat_lt (digits_value 10 text) (2 ^ width) then Ok (digits_value 10 text) else Err S2)

-- The value with its level, or S3 if the name is that of no level.
abbrev pub with_level : (value : ℕ) → Option ℕ → Result Given StimCode
with_level value None = Err S3
with_level value (Some level) = Ok (record { number = value; level = level })

-- The value stands before the first `@` and the level's name behind it; S1 where there is no `@`, or nothing behind it.
abbrev pub tagged_of : Levels → (width : ℕ) → List ℕ → Result Given StimCode
tagged_of ls width text =
    let name = after_first (λ b. b == byte "@") text in
    if length name == 0 then Err S1
    else and_then (value_of width (before_first (λ b. b == byte "@") text))
    (λ value. with_level value (level_named ls.names name))

-- The level of a plain field is bottom.
abbrev pub plain_of : Levels → (width : ℕ) → List ℕ → Result Given StimCode
plain_of ls width text = and_then (value_of width text)
    (λ value. Ok (record { number = value; level = (order_of ls).bottom }))

-- What a field is read as.
abbrev pub field_of : Levels → Field → List ℕ → Result Given StimCode
field_of ls (Tagged width) text = tagged_of ls width text
field_of ls (Plain width) text = plain_of ls width text

-- What the fields of a line are read as, or the first fault of one, from the left; S4 if they are too few or too many.
abbrev pub inputs_of : Levels → List Field → List (List ℕ) → Result (List Given) StimCode
inputs_of ls [] [] = Ok []
inputs_of ls [] (text ∷ texts) = Err S4
inputs_of ls (f ∷ fs) [] = Err S4
inputs_of ls (f ∷ fs) (text ∷ texts) =
    and_then (field_of ls f text) (λ input. and_then (inputs_of ls fs texts) (λ inputs. Ok (input ∷ inputs)))

-- The text is 1 to 5 decimal digits, whose number is 1 to 65,535.
abbrev pub is_count : List ℕ → Bool
is_count digits =
    list_all is_ascii_digit digits && nat_le 1 (length digits) && nat_le (length digits) 5
    && nat_le 1 (digits_value 10 digits) && nat_le (digits_value 10 digits) 65535

-- For how many cycles a line stands: 1 if it has no count, else the number after the `*` of its count; S6 if that isn't
-- in form.
abbrev pub count_of : Option (List ℕ) → Result ℕ StimCode
count_of None = Ok 1
count_of (Some piece) =
    if is_count (drop 1 piece) then Ok (digits_value 10 (drop 1 piece)) else Err S6

-- What a line without its LF gives, or its first fault. In order, these are S1 if it has more than 65,536 bytes, S5 if
-- it has no LF, S4 if it has too few or too many fields, the faults of the fields, and S6.
abbrev pub line_of : Levels → List Field → (ended : Bool) → List ℕ → Result Span StimCode
line_of ls fs ended text =
    if nat_lt 65536 (length text) then Err S1
    else (if not ended then Err S5
    else (if not (length (fields_of text) == length fs) then Err S4
    else and_then (inputs_of ls fs (fields_of text))
    (λ inputs. and_then (count_of (count_in (pieces_of text)))
    (λ count. Ok (record { inputs = inputs; count = count })))))

-- What a call tells that reads a line, its inputs in place of others.
abbrev pub with_inputs : Result ℕ StimCode → (inputs : List Given) → Result Span StimCode
with_inputs (Ok count) inputs = Ok (record { inputs = inputs; count = count })
with_inputs (Err code) inputs = Err code
