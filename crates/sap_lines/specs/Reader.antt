-- What a reader of lines is seen as, and what is to come of it.
use Rattle.std.specs.Prelude.{◌≡◌, ℕ, ◌+◌, ◌≤◌, List, [], ◌++◌, Bool, true, length}
use Rattle.sap_lattice.specs.Levels.{Levels}
use Rattle.sap_stream.specs.Spans.{Span}
use Rattle.sap_stim.specs.declared.field.Field.{Field}
use Rattle.sap_stim.specs.declared.stimulus.Parsed.{Parsed}
use Rattle.sap_stim.specs.Stimulus.{read_from}

-- A reader of a stimulus: its fields, whether it goes on, how many lines it took, and what it has of the next.
pub record Reader : Type 0 where
  -- the fields of each line
  pub fields : List Field
  -- whether a further line may be asked for
  pub live : Bool
  -- what the last line gave; nothing is said of it where the last answer was no line, or none was asked for
  pub line : Span
  -- how many lines were given; the count stands still at 2^64 - 1
  pub count : ℕ
  -- the bytes that were read behind these lines
  pub pending : List ℕ

-- A reader of lines with these fields, which has read nothing.
pub record IsNew (fs : List Field) (r : Reader) : Type 0 where
  pub fields : r.fields ≡ fs
  pub live : r.live ≡ true
  pub count : r.count ≡ 0
  pub pending : r.pending ≡ []

-- What the lines give behind those that were given, where these bytes are left to read.
abbrev pub to_come : Levels → Reader → (rest : List ℕ) → Parsed
to_come ls r rest = read_from ls r.fields (r.count + 1) (r.pending ++ rest)

-- For each line, and for each byte behind them, a byte was given by the channel.
abbrev pub Backed : Reader → (given : ℕ) → Type 0
Backed r given = r.count + length r.pending ≤ given
