-- What comes of the lines of a channel that is read by one line after another.
use Rattle.std.specs.Prelude.{◌≡◌, ◌≢◌, ℕ, List, ◌++◌, length, take, codes, Option, None, unwrap_or, Result, Ok, Err}
use Rattle.sap_desk.specs.Desk.{Told, IsReading, IsWriting, at_number, name_if_reading, read_on_use, rest_of}
use Rattle.sap_desk.specs.Whole.{IsReadTo}
use Rattle.sap_desk.specs.Cause.{counted}
use Rattle.sap_lattice.specs.Levels.{Levels}
use Rattle.sap_meaning.specs.Cycle.{Tagged as Given}
use Rattle.sap_stim.specs.declared.fault.StimFault.{StimFault}
use Rattle.sap_stim.specs.declared.field.Field.{Field}
use Rattle.sap_stim.specs.Stimulus.{stimulus_of}
use Rattle.sap_lines.specs.declared.stepping.stopped.FailedCall.{FailedCall}
use Rattle.sap_lines.specs.declared.stepping.stopped.FailedCall.TheVariants.{Input, Output}
use Rattle.sap_lines.specs.declared.stepping.stopped.Stopped.{Stopped}
use Rattle.sap_lines.specs.declared.stepping.stopped.Stopped.TheVariants.{Call, Memory}
use Rattle.sap_lines.specs.Stepping.Pace.{FaultOf, IsNeeded, IsTooLong, IsWritten, Shows, printed_fault, printed_text}

-- `count` bytes more were read of a channel, `gained` was written on channel 1, and nothing else changed but the blame.
-- The last piece, if there was one, was asked for after `asked` of these bytes.
pub record Going (channel : ℕ) (asked : Option ℕ) (count : ℕ) (gained : List ℕ) (t n : Told) : Type 0 where
  pub uses : n.uses ≡ at_number channel (read_on_use asked count (t.uses channel)) t.uses
  pub files : n.files ≡ t.files
  pub output : n.written 1 ≡ t.written 1 ++ gained
  pub others : (k : ℕ) → k ≢ 1 → n.written k ≡ t.written k
  pub room : n.room ≡ t.room
  pub none : asked ≡ None → count ≡ 0

-- The beginning of what is shown of the first lines of a stimulus.
pub record IsPartShown (shows : Shows) (ls : Levels) (fs : List Field) (bytes gained : List ℕ) : Type 0 where
  pub lines : List (List Given)
  pub more : List (List Given)
  pub stream : (stimulus_of ls fs bytes).stream ≡ lines ++ more
  pub rest : List ℕ
  pub shown : shows lines (gained ++ rest)

-- After how many bytes the last piece was asked for; 0 if none was.
abbrev pub last_place : (asked : Option ℕ) → ℕ
last_place asked = unwrap_or asked 0

-- All lines of a channel before the first that is refused are shown, and the bytes that were read tell them all; what
-- is shown of the last of them may still wait to be written.
pub record Followed (shows : Shows) (ls : Levels) (fs : List Field) (channel : ℕ)
    (fault : Option StimFault) (waiting : List ℕ) (t n : Told) : Type 0 where
  pub asked : Option ℕ
  pub count : ℕ
  pub gained : List ℕ
  pub going : Going channel asked count gained t n
  pub read : IsReadTo None (rest_of t channel) (last_place asked) count
  pub is_fault : fault ≡ (stimulus_of ls fs (rest_of t channel)).fault
  pub shown : shows (stimulus_of ls fs (rest_of t channel)).stream (gained ++ waiting)
  pub enough : stimulus_of ls fs (take count (rest_of t channel)) ≡ stimulus_of ls fs (rest_of t channel)
  pub needed : IsNeeded (printed_fault ls fs) (take (last_place asked) (rest_of t channel))
  pub written : IsWritten Output (printed_text shows ls fs)
      (take (last_place asked) (rest_of t channel)) (take count (rest_of t channel)) gained
  pub blame : n.blame ≡ t.blame

-- On every desk: some bytes have this fault, or have none.
abbrev pub IsFaultOfSome : Levels → List Field → Option StimFault → Type 0
IsFaultOfSome ls fs fault = (bytes : List ℕ) × (fault ≡ (stimulus_of ls fs bytes).fault)

-- A failed call blames its file, or the output.
abbrev pub blamed_for : FailedCall → (name : List ℕ) → List ℕ
blamed_for Input name = name
blamed_for Output name = codes "output"

-- A call failed on the way: the lines of a channel are shown in part, and so are those of the bytes that were read of
-- it.
pub record Broken (shows : Shows) (ls : Levels) (fs : List Field) (channel : ℕ) (why : FailedCall)
    (t n : Told) : Type 0 where
  pub asked : Option ℕ
  pub count : ℕ
  pub gained : List ℕ
  pub going : Going channel asked count gained t n
  pub read : IsReadTo None (rest_of t channel) (last_place asked) count
  pub part : IsPartShown shows ls fs (rest_of t channel) gained
  pub part_read : IsPartShown shows ls fs (take count (rest_of t channel)) gained
  pub needed : IsNeeded (printed_fault ls fs) (take (last_place asked) (rest_of t channel))
  pub written : IsWritten why (printed_text shows ls fs) (take (last_place asked) (rest_of t channel))
      (take count (rest_of t channel)) gained
  pub blame : n.blame ≡ blamed_for why (name_if_reading (t.uses channel))

-- Why a call failed, at a desk on which no call is still to fail by its number: the lines can't be read, or what is
-- written fills the room.
abbrev pub FailsFor : (Unreadable : Told → Type 0) → FailedCall → Told → Told → Type 0
FailsFor Unreadable Input t n = Unreadable t
FailsFor Unreadable Output t n = IsWriting (t.uses 1) → length (n.written 1) ≡ n.room

-- What is left to read of a channel is too long.
abbrev pub GoesTooFar : FaultOf → (channel : ℕ) → Told → Type 0
GoesTooFar fault channel t = IsReading (t.uses channel) → IsTooLong fault (rest_of t channel)

-- A failed call counts once.
abbrev pub Counts : {T : Type 0} → Result T Stopped → (faults now : ℕ) → Type 0
Counts (Ok x) faults now = now ≡ faults
Counts (Err (Call why)) faults now = now ≡ counted faults
Counts (Err Memory) faults now = now ≡ faults
