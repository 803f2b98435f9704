-- A stimulus file: lines, each for one cycle or for several, a field for each input.
use Rattle.std.specs.Prelude.{ℕ, List, [], ◌∷◌, Some, None, Result, Ok, Err, Bool, true, false, ◌+◌, ◌++◌, if◌then◌else◌}
use Rattle.sap_lattice.specs.Levels.{Levels}
use Rattle.sap_meaning.specs.Cycle.{Tagged as Given}
use Rattle.sap_stream.specs.Spans.{Span, cycles_in}
use Rattle.sap_stim.specs.declared.fault.StimCode.{StimCode}
use Rattle.sap_stim.specs.declared.field.Field.{Field}
use Rattle.sap_stim.specs.declared.stimulus.Parsed.{Parsed}
use Rattle.sap_text.specs.Lines.{split_at}
use Rattle.sap_stim.specs.Line.{line_of}

-- There are no bytes.
abbrev pub is_empty : List ℕ → Bool
is_empty [] = true
is_empty (b ∷ bs) = false

-- The cycles of a line, and then what the lines after it give.
abbrev pub ahead : Span → Parsed → Parsed
ahead line p = record { stream = cycles_in line ++ p.stream; fault = p.fault }

-- What a refused line gives: no cycles, and its number and code as the fault.
abbrev pub stopped : (line : ℕ) → StimCode → Parsed
stopped line code = record { stream = []; fault = Some (record { line = line; code = code }) }

-- What the end of a file gives: no cycles and no fault.
abbrev pub finished : Parsed
finished = record { stream = []; fault = None }

-- A line's cycles and what follows, or its fault.
abbrev pub going_on : (line : ℕ) → Result Span StimCode → Parsed → Parsed
going_on line (Ok span) rest = ahead span rest
going_on line (Err code) rest = stopped line code

-- What the lines give from this one on, up to the first that is refused. A piece is what is between two LFs. The last
-- has no LF after it: if it isn't empty, it is a line without one.
abbrev pub read_pieces : Levels → List Field → (line : ℕ) → List (List ℕ) → Parsed
read_pieces ls fs line [] = finished
read_pieces ls fs line (text ∷ []) =
    if is_empty text then finished else going_on line (line_of ls fs false text) finished
read_pieces ls fs line (text ∷ (next ∷ rest)) =
    going_on line (line_of ls fs true text) (read_pieces ls fs (line + 1) (next ∷ rest))

-- What a stimulus is read as: its stream up to its end or its first fault.
abbrev pub stimulus_of : Levels → List Field → List ℕ → Parsed
stimulus_of ls fs bytes = read_pieces ls fs 1 (split_at 10 bytes)

-- What the rest of a file gives, its first line being of this number.
abbrev pub read_from : Levels → List Field → (line : ℕ) → List ℕ → Parsed
read_from ls fs line rest = read_pieces ls fs line (split_at 10 rest)

-- Cycles that were read, and then what comes behind them.
abbrev pub behind : List (List Given) → Parsed → Parsed
behind cycles p = record { stream = cycles ++ p.stream; fault = p.fault }
