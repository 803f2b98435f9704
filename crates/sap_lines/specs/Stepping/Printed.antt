-- What comes of a stimulus that is printed.
use Rattle.std.specs.Prelude.{◌≡◌, ◌≢◌, ◌⊎◌, ℕ, ◌<◌, List, ◌++◌, take, Option, Some, None}
use Rattle.sap_desk.specs.Desk.{Told, Use, closed, reads, at_number, blamed, bytes_of}
use Rattle.sap_desk.specs.Whole.{IsReadTo}
use Rattle.sap_lattice.specs.Levels.{Levels}
use Rattle.sap_stim.specs.declared.fault.StimFault.{StimFault}
use Rattle.sap_stim.specs.declared.field.Field.{Field}
use Rattle.sap_stim.specs.Stimulus.{stimulus_of}
use Rattle.sap_lines.specs.declared.stepping.stopped.FailedCall.{FailedCall}
use Rattle.sap_lines.specs.declared.stepping.stopped.FailedCall.TheVariants.{Input}
use Rattle.sap_lines.specs.declared.stepping.stopped.Stopped.{Stopped}
use Rattle.sap_lines.specs.declared.stepping.stopped.Stopped.TheVariants.{Call, Memory}
use Rattle.sap_lines.specs.Stepping.Followed.{IsPartShown, blamed_for}
use Rattle.sap_lines.specs.Stepping.Pace.{FaultOf, IsNeeded, IsTooLong, IsWritten, Prints, Shows, printed_fault, printed_text}

-- `gained` was written on channel 1, and nothing else changed but what is open and whom the desk blames.
pub record OutputGrew (gained : List ℕ) (t n : Told) : Type 0 where
  pub files : n.files ≡ t.files
  pub output : n.written 1 ≡ t.written 1 ++ gained
  pub lines : n.written 2 ≡ t.written 2
  pub others : (k : ℕ) → k ≢ 1 → n.written k ≡ t.written k
  pub room : n.room ≡ t.room

-- All lines before the first that is refused are shown.
pub record Printed (shows : Shows) (ls : Levels) (fs : List Field) (name : List ℕ)
    (fault : Option StimFault) (t n : Told) : Type 0 where
  pub bytes : List ℕ
  pub file : t.files name ≡ Some bytes
  pub is_fault : fault ≡ (stimulus_of ls fs bytes).fault
  pub gained : List ℕ
  pub shown : shows (stimulus_of ls fs bytes).stream gained
  pub grew : OutputGrew gained t n
  pub uses : n.uses ≡ t.uses
  pub blame : n.blame ≡ t.blame

-- A call failed after the file was opened, and no further call is made, so its channel is still open. The file is read
-- up to `position`, its last piece was asked for at `asked` and was needed, and `gained` is as in `IsWritten`.
pub record StaysOpen (why : FailedCall) (name : List ℕ) (text : Prints) (fault : FaultOf) (t : Told)
    (gained : List ℕ) (before after : ℕ → Use) : Type 0 where
  pub channel : ℕ
  pub above : 2 < channel
  pub fresh : before channel ≡ closed
  pub asked : ℕ
  pub position : ℕ
  pub uses : after ≡ at_number channel (reads name asked position) before
  pub bytes : List ℕ
  pub file : t.files name ≡ Some bytes
  pub read : IsReadTo None bytes asked position
  pub needed : IsNeeded fault (take asked bytes)
  pub written : IsWritten why text (take asked bytes) (take position bytes) gained

-- A call failed once the file was open: what is written is the beginning of what is shown, and no line is shown that
-- isn't whole in the bytes that were read.
pub record CutShort (shows : Shows) (ls : Levels) (fs : List Field) (name : List ℕ) (why : FailedCall)
    (t n : Told) : Type 0 where
  pub gained : List ℕ
  pub grew : OutputGrew gained t n
  pub blame : n.blame ≡ blamed_for why name
  pub stays : StaysOpen why name (printed_text shows ls fs) (printed_fault ls fs) t gained t.uses n.uses
  pub part : IsPartShown shows ls fs stays.bytes gained
  pub part_read : IsPartShown shows ls fs (take stays.position stays.bytes) gained

-- What stands where a call failed: the file could not be opened, and only the blame changed; or the file was opened,
-- and printing was cut short.
abbrev pub CallFailed : Shows → Levels → List Field → (name : List ℕ) → FailedCall → Told → Told → Type 0
CallFailed shows ls fs name why t n = ((why ≡ Input) × (n ≡ blamed name t)) ⊎ CutShort shows ls fs name why t n

-- Printing ended early: by a failed call, of which `Failure` holds; or out of memory, and nothing changed.
abbrev pub Stops : (Failure : FailedCall → Told → Told → Type 0) → Stopped → Told → Told → Type 0
Stops Failure (Call why) t n = Failure why t n
Stops Failure Memory t n = n ≡ t

-- Why a file can't be read that is printed line by line, at a desk on which no call is still to fail by its number.
abbrev pub MissingOrTooLong : FaultOf → (name : List ℕ) → Told → Type 0
MissingOrTooLong fault name t = (t.files name ≡ None) ⊎ IsTooLong fault (bytes_of t name)
