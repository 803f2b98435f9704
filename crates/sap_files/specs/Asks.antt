-- What a command asks, step by step, and what follows from it: why it ends so, and what stands then.
use Rattle.std.specs.Prelude.{◌≡◌, ◌⊎◌, ◌≤◌, ℕ, List, [], take, length, Option, Some, None}
use Rattle.sap_desk.specs.Desk.{Told, at_name}
use Rattle.sap_stim.specs.declared.fault.StimFault.{StimFault}
use Rattle.sap_files.specs.Ending.{Ending, Refusal, done, refused, failed, no_memory, stimulus_refused}
use Rattle.sap_files.specs.Contents.{Has}
use Rattle.sap_files.specs.Kinds.{Kind, IsRefused, IsLawful}

-- What a command asks in turn: a file of a kind, a value of which something holds, and in the end what it gives.
pub data Asks : Type 1 where
  -- reads the file of this name as one of this kind, and goes on with its value
  file : (name : List ℕ) (k : Kind) → (k.Value → Asks) → Asks
  -- goes on with that of which this holds
  with_the : (V : Type 0) (Holds : V → Type 0) → (V → Asks) → Asks
  -- writes the text of which this holds on channel 1, and is done
  gives : (text : List ℕ → Type 0) → Asks
  -- reads the stimulus file of this name line by line, and writes on channel 1, line by line, the text of which this
  -- holds by its bytes; it ends by the fault of the first line that is refused, if one is, and reads no further
  prints : (name : List ℕ) → (text : (bytes given : List ℕ) → Type 0)
      → (fault : (bytes : List ℕ) → Option StimFault) → Asks
  -- writes a text of which this holds to the file of this name, and is done
  writes : (name : List ℕ) → (text : List ℕ → Type 0) → Asks
  -- writes nothing, and is refused
  stops : Refusal → Asks

-- How a command ends that prints a stimulus: done, or refused by the first fault of the stimulus.
abbrev pub end_of : Option StimFault → Ending
end_of None = done
end_of (Some fault) = refused (stimulus_refused 1 fault)

-- The file of this name is refused as one of this kind, and the command ends with that refusal.
abbrev pub EndsAtFile : Told → (name : List ℕ) → Kind → Ending → Type 0
EndsAtFile t name k e = (why : Refusal) × (e ≡ refused why) × IsRefused t name k why

-- The arguments and files are a cause of this ending. It is the refusal of the first file, in order, that is refused;
-- or all files stand for values, and it is how the command's last step ends.
abbrev pub Cause : Asks → Told → Ending → Type 0
Cause (file name k rest) t e = EndsAtFile t name k e ⊎ ((v : k.Value) × Has t name k.Stands v × Cause (rest v) t e)
Cause (with_the V Holds rest) t e = (v : V) × Holds v × Cause (rest v) t e
Cause (gives text) t e = e ≡ done
Cause (prints name text fault) t e = (bytes : List ℕ) × (t.files name ≡ Some bytes) × (e ≡ end_of (fault bytes))
Cause (writes name text) t e = e ≡ done
Cause (stops why) t e = e ≡ refused why

-- A command that asks this can end so for some contents of its files.
abbrev pub MayEnd : Asks → Ending → Type 0
MayEnd (file name k rest) e =
    ((bytes : List ℕ) × (why : Refusal) × (e ≡ refused why) × k.Refused bytes why)
    ⊎ ((bytes : List ℕ) × (v : k.Value) × k.Stands bytes v × MayEnd (rest v) e)
MayEnd (with_the V Holds rest) e = (v : V) × Holds v × MayEnd (rest v) e
MayEnd (gives text) e = e ≡ done
MayEnd (prints name text fault) e = (bytes : List ℕ) × (e ≡ end_of (fault bytes))
MayEnd (writes name text) e = e ≡ done
MayEnd (stops why) e = e ≡ refused why

-- What standard output gains if a command ends so: nothing if a file is refused, else the text that the command gives.
abbrev pub Shows : Asks → Told → Ending → (gained : List ℕ) → Type 0
Shows (file name k rest) t e gained =
    (EndsAtFile t name k e × (gained ≡ [])) ⊎ ((v : k.Value) × Has t name k.Stands v × Shows (rest v) t e gained)
Shows (with_the V Holds rest) t e gained = (v : V) × Holds v × Shows (rest v) t e gained
Shows (gives text) t e gained = (e ≡ done) × text gained
Shows (prints name text fault) t e gained = (bytes : List ℕ) × (t.files name ≡ Some bytes)
    × (e ≡ end_of (fault bytes)) × text bytes gained
Shows (writes name text) t e gained = (e ≡ done) × (gained ≡ [])
Shows (stops why) t e gained = (e ≡ refused why) × (gained ≡ [])

-- The text that the words and files ask for on channel 1.
abbrev pub IsOutput : Asks → Told → (text : List ℕ) → Type 0
IsOutput a t text = (e : Ending) × Shows a t e text

-- `part` is a beginning of `whole`.
abbrev pub IsPrefix : (part whole : List ℕ) → Type 0
IsPrefix part whole = (k : ℕ) × (k ≤ length whole) × (part ≡ take k whole)

-- What channel 1 gained where a call failed: a prefix of the text that is asked for, or nothing.
abbrev pub IsCut : Asks → Told → (gained : List ℕ) → Type 0
IsCut a t gained = (gained ≡ []) ⊎ ((text : List ℕ) × IsOutput a t text × IsPrefix gained text)

-- What channel 1 gained, by the ending: where there was no memory, nothing.
abbrev pub Output : Asks → Told → (gained : List ℕ) → Ending → Type 0
Output a t gained done = Shows a t done gained
Output a t gained (refused why) = Shows a t (refused why) gained
Output a t gained (failed name) = IsCut a t gained
Output a t gained no_memory = gained ≡ []

-- The files of a desk, by name.
abbrev pub Files : Type 0
Files = List ℕ → Option (List ℕ)

-- The files after a command that is done: the file that it writes has a text that it asks for, and all others are as
-- before.
abbrev pub Written : Asks → Told → Files → Type 0
Written (file name k rest) t files = (v : k.Value) × Has t name k.Stands v × Written (rest v) t files
Written (with_the V Holds rest) t files = (v : V) × Holds v × Written (rest v) t files
Written (gives text) t files = files ≡ t.files
Written (prints name text fault) t files = files ≡ t.files
Written (writes name text) t files = (whole : List ℕ) × text whole × (files ≡ at_name name (Some whole) t.files)
Written (stops why) t files = files ≡ t.files

-- The files after a failed call on the file that the command writes: that file is blamed and has a beginning of a text
-- that the command asks for. All others are as before.
abbrev pub WrittenInPart : Asks → Told → (blamed : List ℕ) → Files → Type 0
WrittenInPart (file name k rest) t blamed files =
    (v : k.Value) × Has t name k.Stands v × WrittenInPart (rest v) t blamed files
WrittenInPart (with_the V Holds rest) t blamed files = (v : V) × Holds v × WrittenInPart (rest v) t blamed files
WrittenInPart (gives text) t blamed files = ⊥
WrittenInPart (prints name text fault) t blamed files = ⊥
WrittenInPart (writes name text) t blamed files =
    (blamed ≡ name) × ((whole part : List ℕ) × text whole × IsPrefix part whole
    × (files ≡ at_name name (Some part) t.files))
WrittenInPart (stops why) t blamed files = ⊥

-- The files after a command, by its ending.
abbrev pub Leaves : Asks → Told → Files → Ending → Type 0
Leaves a t files done = Written a t files
Leaves a t files (refused why) = files ≡ t.files
Leaves a t files (failed blamed) = (files ≡ t.files) ⊎ WrittenInPart a t blamed files
Leaves a t files no_memory = files ≡ t.files

-- Each kind of file is lawful, of what it goes on by there is at most one, and at most one text is asked for on channel
-- 1.
abbrev pub AreLawful : Asks → Type 0
AreLawful (file name k rest) = IsLawful k × ((bytes : List ℕ) (v : k.Value) → k.Stands bytes v → AreLawful (rest v))
AreLawful (with_the V Holds rest) = ((v w : V) → Holds v → Holds w → v ≡ w) × ((v : V) → Holds v → AreLawful (rest v))
AreLawful (gives text) = (one other : List ℕ) → text one → text other → one ≡ other
AreLawful (prints name text fault) = (bytes one other : List ℕ) → text bytes one → text bytes other → one ≡ other
AreLawful (writes name text) = Unit {0}
AreLawful (stops why) = Unit {0}
