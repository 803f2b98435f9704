-- What stands after a command by its ending: which file is blamed, what is open, and what a failed call left.
use Rattle.std.specs.Prelude.{◌≡◌, ◌⊎◌, ℕ, List, [], take, codes}
use Rattle.sap_desk.specs.Desk.{Told, Use}
use Rattle.sap_desk.specs.Whole.{OpenWithin, WritesOn}
use Rattle.sap_lines.specs.Stepping.Followed.{blamed_for}
use Rattle.sap_lines.specs.Stepping.Pace.{Prints}
use Rattle.sap_lines.specs.Stepping.Printed.{StaysOpen}
use Rattle.sap_lines.specs.declared.stepping.stopped.FailedCall.{FailedCall}
use Rattle.sap_files.specs.Contents.{Has}
use Rattle.sap_files.specs.Asks.{Asks, IsPrefix, file, with_the, gives, prints, writes, stops}
use Rattle.sap_files.specs.Ending.{Ending, done, refused, failed, no_memory}

-- Whom the desk blames after a command: the file of the failed call, or `output`. If no call failed, it blames whom it
-- blamed before.
abbrev pub Blames : (before blame : List ℕ) → Ending → Type 0
Blames before blame done = blame ≡ before
Blames before blame (refused why) = blame ≡ before
Blames before blame (failed name) = blame ≡ name
Blames before blame no_memory = blame ≡ before

-- `gained` is a beginning of the text that these bytes give.
abbrev pub IsBegun : Prints → (bytes gained : List ℕ) → Type 0
IsBegun text bytes gained = (whole : List ℕ) × text bytes whole × IsPrefix gained whole

-- What is open after a failed call that blames `blamed`, and what standard output gained. A file that is read whole, or
-- written: nothing was gained, and its channel may be open; `OpenWithin` gives how far it was read. Standard output,
-- written at once: all is open as before. A stimulus that is printed line by line: nothing was gained if it wasn't
-- opened. Else its channel is open, and `StaysOpen` gives how far it was read and what was written, a beginning of what
-- the bytes read give. That no further call was made follows from the counts of failed calls.
abbrev pub StandsFailed : Asks → Told → (blamed gained : List ℕ) → (before after : ℕ → Use) → Type 0
StandsFailed (file name k rest) t blamed gained before after =
    ((blamed ≡ name) × (gained ≡ []) × OpenWithin k.most name t before after)
    ⊎ ((v : k.Value) × Has t name k.Stands v × StandsFailed (rest v) t blamed gained before after)
StandsFailed (with_the V Holds rest) t blamed gained before after =
    (v : V) × Holds v × StandsFailed (rest v) t blamed gained before after
StandsFailed (gives text) t blamed gained before after = (blamed ≡ codes "output") × (after ≡ before)
StandsFailed (prints name text fault) t blamed gained before after =
    ((blamed ≡ name) × (gained ≡ []) × (after ≡ before))
    ⊎ ((why : FailedCall) × (blamed ≡ blamed_for why name)
    × (stays : StaysOpen why name text fault t gained before after)
    × IsBegun text (take stays.position stays.bytes) gained)
StandsFailed (writes name text) t blamed gained before after =
    (blamed ≡ name) × (gained ≡ []) × ((after ≡ before) ⊎ WritesOn name before after)
StandsFailed (stops why) t blamed gained before after = ⊥

-- What is open after a command that wrote `gained` on standard output, and how far it is read. All is as before, unless
-- a call failed.
abbrev pub Stands : Asks → Told → Ending → (gained : List ℕ) → (before after : ℕ → Use) → Type 0
Stands a t done gained before after = after ≡ before
Stands a t (refused why) gained before after = after ≡ before
Stands a t (failed blamed) gained before after = StandsFailed a t blamed gained before after
Stands a t no_memory gained before after = after ≡ before
