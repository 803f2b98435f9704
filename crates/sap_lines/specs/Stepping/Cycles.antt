-- What the steps in some cycles of a line show.
use Rattle.std.specs.Prelude.{◌≡◌, ℕ, ◌+◌, ◌≤◌, List, [], ◌∷◌, ◌++◌, length, replicate, take, Option}
use Rattle.sap_desk.specs.Desk.{Told}
use Rattle.sap_desk.specs.Whole.{CutOutput}
use Rattle.sap_meaning.specs.Cycle.{Tagged as Given}
use Rattle.sap_stream.specs.Spans.{Span}
use Rattle.sap_lines.specs.Stepping.Pace.{Shows}
use Rattle.sap_pieces.specs.Written.{PartWritten}

-- Behind so many others, these cycles add this text to what is shown.
abbrev pub Adds : (behind : List (List Given) → Type 0) → (shows later : Shows) → (count : ℕ)
    → (cycles : List (List Given)) → (text : List ℕ) → Type 0
Adds behind shows later count cycles text =
    (before : List (List Given)) (shown : List ℕ) → behind before → count ≡ length before
    → shows before shown → later (before ++ cycles) (shown ++ text)

-- The step on a line, in the cycle of this number, adds a text to what is shown, and this holds of the text.
pub record StepShown (behind : List (List Given) → Type 0) (shows later : Shows) (cycle : ℕ)
    (line : List Given) (Holds : (text : List ℕ) → Type 0) : Type 0 where
  pub text : List ℕ
  pub adds : (count : ℕ) → cycle ≡ count + 1 → Adds behind shows later count (line ∷ []) text
  pub holds : Holds text

-- The first of these cycles, however many, add a beginning of this text.
abbrev pub AddsAlong : (behind : List (List Given) → Type 0) → (shows : Shows) → (count : ℕ)
    → (cycles : List (List Given)) → (text : List ℕ) → Type 0
AddsAlong behind shows count cycles text =
    (first : ℕ) → (part more : List ℕ) × Adds behind shows shows count (take first cycles) part × (text ≡ part ++ more)

-- What these cycles show was written behind what waited, but what waits now.
pub record CyclesShown (behind : List (List Given) → Type 0) (shows later : Shows) (count : ℕ)
    (cycles : List (List Given))
    (waited waits : List ℕ) (before after : Option Told) : Type 0 where
  pub text : List ℕ
  pub adds : Adds behind shows later count cycles text
  pub along : AddsAlong behind shows count cycles text
  pub written : PartWritten 1 (waited ++ text) waits before after

-- A write failed: of what waited and what the first cycles of a line show only a part was written.
pub record CyclesCut (behind : List (List Given) → Type 0) (shows later : Shows) (count : ℕ)
    (line : Span) (waited : List ℕ) (before after : Option Told) : Type 0 where
  pub first : ℕ
  pub within : first ≤ line.count
  pub text : List ℕ
  pub adds : Adds behind shows later count (replicate first line.inputs) text
  pub cut : CutOutput (waited ++ text) before after
