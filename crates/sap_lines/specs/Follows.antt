-- What a reader's answers, one after another, tell of a whole file.
use Rattle.std.specs.Prelude.{◌≡◌, ℕ, ◌<◌, ◌^◌, List, [], ◌∷◌, ◌++◌, length, Option, Some, None}
use Rattle.sap_lattice.specs.Levels.{Levels}
use Rattle.sap_meaning.specs.Cycle.{Tagged as Given}
use Rattle.sap_stream.specs.Spans.{Span, cycles_of}
use Rattle.sap_stim.specs.declared.fault.StimFault.{StimFault}
use Rattle.sap_stim.specs.declared.field.Field.{Field}
use Rattle.sap_stim.specs.declared.stimulus.Parsed.{Parsed}
use Rattle.sap_stim.specs.Stimulus.{behind, stimulus_of}
use Rattle.sap_lines.specs.declared.next.Next.TheVariants.{Line, End, Fault}
use Rattle.sap_lines.specs.Answers.{Tells, TellsSome, count_after}
use Rattle.sap_lines.specs.Reader.{Reader, IsNew, to_come}

-- A reader gave these lines of a file: their cycles, and what is to come where these bytes are left to read, are what
-- the file gives.
pub record Follows (ls : Levels) (fs : List Field) (bytes : List ℕ) (lines : List Span) (r : Reader)
    (rest : List ℕ) : Type 0 where
  pub fields : r.fields ≡ fs
  pub count : r.count ≡ length lines
  pub parsed : behind (cycles_of lines) (to_come ls r rest) ≡ stimulus_of ls fs bytes

-- A new reader gave none.
abbrev pub Begins : Type 0
Begins = (ls : Levels) (fs : List Field) (bytes : List ℕ) (r : Reader) → IsNew fs r → Follows ls fs bytes [] r bytes

-- An answer with a line gives one line more.
abbrev pub GoesOn : Type 0
GoesOn = (ls : Levels) (fs : List Field) (bytes : List ℕ) (lines : List Span) (r later : Reader)
    (rest rest_later : List ℕ)
    → Follows ls fs bytes lines r rest → r.count < 2 ^ 32 → later.fields ≡ r.fields
    → later.count ≡ count_after Line r.count
    → Tells Line (to_come ls r rest) later.line (to_come ls later rest_later)
    → Follows ls fs bytes (lines ++ later.line ∷ []) later rest_later

-- Cycles and a fault as the result of a parse.
abbrev pub parsed_as : List (List Given) → Option StimFault → Parsed
parsed_as cycles fault = record { stream = cycles; fault = fault }

-- At the end the cycles of the lines are all that the file gives, and none is refused.
abbrev pub Ends : Type 0
Ends = (ls : Levels) (fs : List Field) (bytes : List ℕ) (lines : List Span) (r : Reader) (rest : List ℕ)
    (line : Span) (after : Parsed)
    → Follows ls fs bytes lines r rest → Tells End (to_come ls r rest) line after
    → stimulus_of ls fs bytes ≡ parsed_as (cycles_of lines) None

-- At a fault the cycles of the lines are all that the file gives, and the fault is the file's.
abbrev pub Stops : Type 0
Stops = (ls : Levels) (fs : List Field) (bytes : List ℕ) (lines : List Span) (r : Reader)
    (rest : List ℕ) (line : Span) (after : Parsed) (fault : StimFault)
    → Follows ls fs bytes lines r rest → Tells (Fault fault) (to_come ls r rest) line after
    → stimulus_of ls fs bytes ≡ parsed_as (cycles_of lines) (Some fault)

-- On every desk, there are bytes of which a reader gave these lines, whatever comes after them.
abbrev pub FollowsSome : Levels → List Field → (lines : List Span) → Reader → Type 0
FollowsSome ls fs lines r = (bytes : List ℕ) × ((rest : List ℕ) → Follows ls fs (bytes ++ rest) lines r rest)

-- A new reader follows no line.
abbrev pub BeginsSome : Type 0
BeginsSome = (ls : Levels) (fs : List Field) (r : Reader) → IsNew fs r → FollowsSome ls fs [] r

-- A reader that follows some lines and tells one more follows one more.
abbrev pub GoesOnSome : Type 0
GoesOnSome = (ls : Levels) (fs : List Field) (lines : List Span) (r later : Reader)
    → FollowsSome ls fs lines r → r.count < 2 ^ 32 → later.fields ≡ r.fields → later.count ≡ count_after Line r.count
    → TellsSome ls Line r later → FollowsSome ls fs (lines ++ later.line ∷ []) later

-- Some bytes give the cycles of these lines and this fault.
abbrev pub GivesSome : Levels → List Field → (lines : List Span) → Option StimFault → Type 0
GivesSome ls fs lines fault = (bytes : List ℕ) × (stimulus_of ls fs bytes ≡ parsed_as (cycles_of lines) fault)

-- A reader that tells the end after some lines has them all.
abbrev pub EndsSome : Type 0
EndsSome = (ls : Levels) (fs : List Field) (lines : List Span) (r later : Reader)
    → FollowsSome ls fs lines r → TellsSome ls End r later → GivesSome ls fs lines None

-- A reader that tells a fault after some lines has those before the fault.
abbrev pub StopsSome : Type 0
StopsSome = (ls : Levels) (fs : List Field) (lines : List Span) (r later : Reader) (fault : StimFault)
    → FollowsSome ls fs lines r → TellsSome ls (Fault fault) r later → GivesSome ls fs lines (Some fault)
