-- What each answer of a reader says.
use Rattle.std.specs.Prelude.{◌≡◌, ℕ, ◌+◌, ◌⊎◌, List, [], ◌++◌, ◌==◌, length, Bool, true, false, IsTrue, Option, Some, Ok, IfSome, option_map}
use Rattle.std.specs.List.{after_first, before_first, list_any}
use Rattle.sap_desk.specs.Cause.{counted}
use Rattle.sap_desk.specs.Desk.{Told, at_number, blame_at, name_if_reading, read_on}
use Rattle.sap_lattice.specs.Levels.{Levels}
use Rattle.sap_stream.specs.Spans.{Span}
use Rattle.sap_stim.specs.declared.field.Field.{Field}
use Rattle.sap_stim.specs.declared.stimulus.Parsed.{Parsed}
use Rattle.sap_stim.specs.Line.{line_of}
use Rattle.sap_stim.specs.Stimulus.{ahead, finished}
use Rattle.sap_lines.specs.declared.next.Next.{Next}
use Rattle.sap_lines.specs.declared.next.Next.TheVariants.{Line, End, Fault, Failed}
use Rattle.sap_lines.specs.Fetched.{ReadsLeast}
use Rattle.sap_lines.specs.Reader.{Reader, to_come}

-- The answer is a line.
abbrev pub is_line : Next → Bool
is_line Line = true
is_line End = false
is_line (Fault fault) = false
is_line Failed = false

-- The answer is a failed call.
abbrev pub is_failed : Next → Bool
is_failed Line = false
is_failed End = false
is_failed (Fault fault) = false
is_failed Failed = true

-- How many lines an answer gives.
abbrev pub lines_in : Next → ℕ
lines_in Line = 1
lines_in End = 0
lines_in (Fault fault) = 0
lines_in Failed = 0

-- How many lines were given after an answer.
abbrev pub count_after : Next → (count : ℕ) → ℕ
count_after Line count = counted count
count_after End count = count
count_after (Fault fault) count = count
count_after Failed count = count

-- What an answer says of the lines that were to come. A line: the first of them gives its cycles, and the others are
-- still to come. The end: there was none. A fault: the first was refused, and why.
abbrev pub Tells : Next → (before : Parsed) → (line : Span) → (after : Parsed) → Type 0
Tells Line before line after = before ≡ ahead line after
Tells End before line after = before ≡ finished
Tells (Fault fault) before line after = before ≡ record { stream = []; fault = Some fault }
Tells Failed before line after = Unit {0}

-- The answer is right for a channel on which these bytes come next. If it is a line, anything may follow them, else
-- nothing follows them.
abbrev pub TellsBy : Levels → Next → (was now : Reader) → (more : List ℕ) → Type 0
TellsBy ls next was now more = (rest : List ℕ) → IsTrue (is_line next) ⊎ (rest ≡ [])
    → Tells next (to_come ls was (more ++ rest)) now.line (to_come ls now rest)

-- On every desk, there are bytes for which the answer is right.
abbrev pub TellsSome : Levels → Next → (was now : Reader) → Type 0
TellsSome ls next was now = (more : List ℕ) × TellsBy ls next was now more

-- These bytes begin with a line and its LF; `line` is what the line gives, and `left` are the bytes after the LF.
pub record BeginsWith (ls : Levels) (fs : List Field) (bytes : List ℕ) (line : Span) (left : List ℕ) : Type 0 where
  pub ended : list_any (λ b. b == 10) bytes ≡ true
  pub gives : line_of ls fs true (before_first (λ b. b == 10) bytes) ≡ Ok line
  pub behind : left ≡ after_first (λ b. b == 10) bytes

-- A line is taken: the pending bytes, and these behind them, begin with it, and what stands behind its LF is pending
-- then.
abbrev pub TakesLine : Levels → (was now : Reader) → (more : List ℕ) → Type 0
TakesLine ls was now more = BeginsWith ls was.fields (was.pending ++ more) now.line now.pending

-- On every desk, a line is taken of the pending bytes and of `count` bytes after them.
abbrev pub TakesSome : Levels → (was now : Reader) → (count : ℕ) → Type 0
TakesSome ls was now count = (more : List ℕ) × (length more ≡ count) × TakesLine ls was now more

-- A failed call counts once, as a fault.
abbrev pub Counted : Next → (faults now : ℕ) → Type 0
Counted Line faults now = now ≡ faults
Counted End faults now = now ≡ faults
Counted (Fault fault) faults now = now ≡ faults
Counted Failed faults now = now ≡ counted faults

-- A failed call blames the file of its channel, named as the channel was before.
abbrev pub blamed_by : Next → (channel : ℕ) → (name : List ℕ) → Told → Told
blamed_by Line channel name t = t
blamed_by End channel name t = t
blamed_by (Fault fault) channel name t = t
blamed_by Failed channel name t = blame_at channel name t

-- `count` bytes more were read of a channel, and nothing else changed but the blame. The last piece, if there was one,
-- was asked for after `asked` of these bytes, since the pending bytes and those didn't decide the next line.
pub record ReadOn (next : Next) (channel : ℕ) (pending : List ℕ) (told_was told_now : Option Told)
    (given_was given_now : ℕ → ℕ) : Type 0 where
  pub asked : Option ℕ
  pub count : ℕ
  pub least : IfSome told_was (ReadsLeast channel pending asked count)
  pub told : told_now ≡ option_map (λ t. blamed_by next channel (name_if_reading (t.uses channel))
      (read_on channel asked count t)) told_was
  pub given : given_now ≡ at_number channel (given_was channel + count) given_was
