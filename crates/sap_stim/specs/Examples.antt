-- Worked examples of stimulus files and rows, over the levels low and high, for one input of 8 bits.
use Rattle.std.specs.Prelude.{◌≡◌, ℕ, List, [], ◌∷◌, ◌++◌, Some, None, codes}
use Rattle.sap_text.specs.Places.{line}
use Rattle.sap_meaning.specs.Cycle.{Tagged as Given}
use Rattle.sap_stim.specs.declared.fault.StimCode.{StimCode}
use Rattle.sap_stim.specs.declared.fault.StimCode.TheVariants.{S1, S2, S3, S4, S5, S6}
use Rattle.sap_stim.specs.declared.field.Field.TheVariants.{Tagged, Plain}
use Rattle.sap_lattice.specs.Examples.{low_high}
use Rattle.sap_stim.specs.declared.stimulus.Parsed.{Parsed}
use Rattle.sap_stim.specs.Stimulus.{stimulus_of}
use Rattle.sap_stim.specs.Rows.{row_text, shown_of}

-- A number with its level.
abbrev pub input : ℕ → ℕ → Given
input value level = record { number = value; level = level }

-- One number with its level.
abbrev pub given : ℕ → ℕ → List Given
given value level = input value level ∷ []

-- What a stimulus of one tagged input of eight bits is read as.
abbrev pub read : List ℕ → Parsed
read bytes = stimulus_of low_high (Tagged 8 ∷ []) bytes

-- The stream, read to its end.
abbrev pub ends : List (List Given) → Parsed
ends stream = record { stream = stream; fault = None }

-- The stream up to a fault.
abbrev pub stops : List (List Given) → (line : ℕ) → StimCode → Parsed
stops stream line code = record { stream = stream; fault = Some (record { line = line; code = code }) }

-- An empty stimulus is a stream without cycles.
abbrev pub Empty : Type 0
Empty = read [] ≡ ends []

-- Two lines are two cycles.
abbrev pub TwoLines : Type 0
TwoLines = read (line (codes "5@low") ++ line (codes "255@high")) ≡ ends (given 5 0 ∷ given 255 1 ∷ [])

-- The last line has no LF; the value of the second line isn't below 256; an unknown level; no level; a missing field;
-- one too many.
abbrev pub NotEnded : Type 0
NotEnded = read (codes "5@low") ≡ stops [] 1 S5

-- A number past its width is S2.
abbrev pub TooLarge : Type 0
TooLarge = read (line (codes "5@low") ++ line (codes "256@low")) ≡ stops (given 5 0 ∷ []) 2 S2

-- A level that the lattice hasn't is S3.
abbrev pub UnknownLevel : Type 0
UnknownLevel = read (line (codes "5@mid")) ≡ stops [] 1 S3

-- A field without a level is S1.
abbrev pub NoLevel : Type 0
NoLevel = read (line (codes "5@")) ≡ stops [] 1 S1

-- A line without fields is S4.
abbrev pub NoField : Type 0
NoField = read (line []) ≡ stops [] 1 S4

-- A trailing space makes a field too many: S4.
abbrev pub TrailingSpace : Type 0
TrailingSpace = read (line (codes "5@low ")) ≡ stops [] 1 S4

-- The first `@` ends the value; a plain field has none.
abbrev pub TwoMarks : Type 0
TwoMarks = read (line (codes "5@low@")) ≡ stops [] 1 S3

-- An input without a tag has a number alone.
abbrev pub PlainField : Type 0
PlainField = stimulus_of low_high (Plain 8 ∷ []) (line (codes "7")) ≡ ends (given 7 0 ∷ [])

-- A level where the input has none is S1.
abbrev pub MarkedPlain : Type 0
MarkedPlain = stimulus_of low_high (Plain 8 ∷ []) (line (codes "7@low")) ≡ stops [] 1 S1

-- Two fields; with two spaces between them the line has three, of which the middle one is empty: S4 where two are asked
-- for, S1 where three are.
abbrev pub TwoFields : Type 0
TwoFields = stimulus_of low_high (Tagged 8 ∷ Plain 1 ∷ []) (line (codes "5@high 1"))
    ≡ ends ((input 5 1 ∷ input 1 0 ∷ []) ∷ [])

-- Two spaces make a field too many: S4.
abbrev pub TwoSpaces : Type 0
TwoSpaces = stimulus_of low_high (Tagged 8 ∷ Tagged 8 ∷ []) (line (codes "5@low  5@low")) ≡ stops [] 1 S4

-- An empty field is S1.
abbrev pub EmptyField : Type 0
EmptyField = stimulus_of low_high (Tagged 8 ∷ Tagged 8 ∷ Tagged 8 ∷ []) (line (codes "5@low  5@low")) ≡ stops [] 1 S1

-- A number of 21 digits is no value, one of 20 digits is one.
abbrev pub TooLong : Type 0
TooLong = read (line (codes "000000000000000000005@low")) ≡ stops [] 1 S1

-- Leading zeros are in form.
abbrev pub LongEnough : Type 0
LongEnough = read (line (codes "00000000000000000005@low")) ≡ ends (given 5 0 ∷ [])

-- A line that stands for three cycles, and one behind it.
abbrev pub Counted : Type 0
Counted = read (line (codes "5@low *3") ++ line (codes "7@high"))
    ≡ ends (given 5 0 ∷ given 5 0 ∷ given 5 0 ∷ given 7 1 ∷ [])

-- No cycle; more than 65,535; no digits; six digits; behind it a line that isn't read.
abbrev pub NoCycle : Type 0
NoCycle = read (line (codes "5@low") ++ line (codes "5@low *0") ++ line (codes "5@low")) ≡ stops (given 5 0 ∷ []) 2 S6

-- A count above 65,535 is S6.
abbrev pub TooMany : Type 0
TooMany = read (line (codes "5@low *65536")) ≡ stops [] 1 S6

-- A count without digits is S6.
abbrev pub NoDigits : Type 0
NoDigits = read (line (codes "5@low *")) ≡ stops [] 1 S6

-- A count of six digits is S6.
abbrev pub SixDigits : Type 0
SixDigits = read (line (codes "5@low *000001")) ≡ stops [] 1 S6

-- A count of five digits repeats the line.
abbrev pub FiveDigits : Type 0
FiveDigits = read (line (codes "5@low *00002")) ≡ ends (given 5 0 ∷ given 5 0 ∷ [])

-- The faults of fields and of their number come before that of a count, which is no field.
abbrev pub FieldFirst : Type 0
FieldFirst = read (line (codes "256@low *0")) ≡ stops [] 1 S2

-- A line with a count alone has too few fields: S4.
abbrev pub CountAlone : Type 0
CountAlone = read (line (codes "*2")) ≡ stops [] 1 S4

-- A count that isn't last is S4.
abbrev pub CountWithin : Type 0
CountWithin = read (line (codes "*2 5@low")) ≡ stops [] 1 S4

-- An empty field before a count is S1.
abbrev pub CountBehindSpace : Type 0
CountBehindSpace = read (line (codes " *2")) ≡ stops [] 1 S1

-- Two counts are S4.
abbrev pub TwoCounts : Type 0
TwoCounts = read (line (codes "5@low *2 *2")) ≡ stops [] 1 S4

-- Without inputs a line is empty or a count alone.
abbrev pub NoInputs : Type 0
NoInputs = stimulus_of low_high [] (line [] ++ line (codes "*2")) ≡ ends ([] ∷ [] ∷ [] ∷ [])

-- The code 0 is that of low, 1 is that of high, and 3 is none.
abbrev pub Row : Type 0
Row = row_text 1 (record { name = codes "x"; value = 6; level = Some (codes "low"); tag = 0 }
    ∷ record { name = codes "y"; value = 0; level = None; tag = 3 } ∷ [])
    ≡ line (codes "cycle 1: x=6@low y=0@#3")

-- A row shows a code that is no level by its number.
abbrev pub RowOfTags : Type 0
RowOfTags = row_text 12 (shown_of low_high (codes "x" ∷ codes "y" ∷ codes "z" ∷ []) (6 ∷ 0 ∷ 70 ∷ []) (0 ∷ 3 ∷ 1 ∷ []))
    ≡ line (codes "cycle 12: x=6@low y=0@#3 z=70@high")
