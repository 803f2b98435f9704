-- How far a file is read that is printed line by line, and what of it is written by then, as a failed call shows it.
use Rattle.std.specs.Prelude.{◌≡◌, ℕ, ◌-◌, ◌^◌, ◌≤◌, List, ◌++◌, length, take, Option, Some}
use Rattle.sap_lattice.specs.Levels.{Levels}
use Rattle.sap_meaning.specs.Cycle.{Tagged as Given}
use Rattle.sap_stim.specs.declared.fault.StimFault.{StimFault}
use Rattle.sap_stim.specs.declared.field.Field.{Field}
use Rattle.sap_stim.specs.Stimulus.{stimulus_of}
use Rattle.sap_lines.specs.declared.stepping.stopped.FailedCall.{FailedCall}
use Rattle.sap_lines.specs.declared.stepping.stopped.FailedCall.TheVariants.{Input, Output}

-- Which text is shown of which lines.
abbrev pub Shows : Type 1
Shows = List (List Given) → List ℕ → Type 0

-- Which text is printed of which bytes.
abbrev pub Prints : Type 1
Prints = (bytes text : List ℕ) → Type 0

-- The fault of the first line of some bytes that is refused, if one is.
abbrev pub FaultOf : Type 0
FaultOf = (bytes : List ℕ) → Option StimFault

-- The text that is printed of the bytes of a stimulus: what its lines before the first refused one show.
abbrev pub printed_text : Shows → Levels → List Field → Prints
printed_text shows ls fs bytes text = shows (stimulus_of ls fs bytes).stream text

-- The fault of a stimulus.
abbrev pub printed_fault : Levels → List Field → FaultOf
printed_fault ls fs bytes = (stimulus_of ls fs bytes).fault

-- These bytes decide a refusal: whatever follows them, the same line is refused for the same reason.
abbrev pub TellsRefusal : FaultOf → (bytes : List ℕ) → Type 0
TellsRefusal fault bytes = (why : StimFault) × ((rest : List ℕ) → fault (bytes ++ rest) ≡ Some why)

-- A further piece of a file is needed: the bytes before it decide no refusal.
abbrev pub IsNeeded : FaultOf → (before : List ℕ) → Type 0
IsNeeded fault before = ¬ TellsRefusal fault before

-- What is written if a call fails: `front` are the bytes read by then, `before` those before the last piece. If the
-- call was on the file, exactly what `front` gives is written; if it was on the output, at least what `before` gives.
abbrev pub IsWritten : FailedCall → Prints → (before front : List ℕ) → (gained : List ℕ) → Type 0
IsWritten Input text before front gained = text front gained
IsWritten Output text before front gained = (whole more : List ℕ) × text before whole × (gained ≡ whole ++ more)

-- A file is too long for a desk, and what of it a desk gives at least doesn't tell that a line is refused.
pub record IsTooLong (fault : FaultOf) (bytes : List ℕ) : Type 0 where
  pub long : 2 ^ 32 ≤ length bytes
  pub needed : IsNeeded fault (take (2 ^ 32 - 4096) bytes)
