-- What the steps of a command leave: the words of the contracts of its calls.
use Rattle.std.specs.Prelude.{◌≡◌, ◌≢◌, ◌⊎◌, ◌++◌, ℕ, List, length, Option, Some, None, Result, Ok, Err, IfSome}
use Rattle.sap_desk.specs.Desk.{Told, Use, IsOpen}
use Rattle.sap_desk.specs.Cause.{counted}
use Rattle.sap_desk.specs.Whole.{Between, IsFront, OpenWithin}
use Rattle.sap_lattice.specs.Levels.{Levels, order_of}
use Rattle.sap_latfile.specs.declared.fault.LatFileFault.{LatFileFault}
use Rattle.sap_latfile.specs.declared.fault.LatFileFault.TheVariants as lattice_fault
use Rattle.sap_parse.specs.Limits.{most_bytes}
use Rattle.sap_lex.specs.declared.fault.ReadFault.{ReadFault}
use Rattle.sap_lex.specs.declared.fault.ReadFault.TheVariants as read_fault
use Rattle.sap_check.specs.Checked.{levels_in, tree_in}
use Rattle.sap_check.specs.declared.checked.Checked.{Checked}
use Rattle.sap_vread.specs.declared.fault.ModFault.{ModFault}
use Rattle.sap_vread.specs.declared.fault.ModFault.TheVariants as module_fault
use Rattle.sap_system.specs.declared.fault.SysFault.{SysFault}
use Rattle.sap_system.specs.declared.fault.SysFault.TheVariants as system_fault
use Rattle.sap_wave.specs.declared.fault.WaveFault.{WaveFault}
use Rattle.sap_wave.specs.declared.fault.WaveFault.TheVariants as wave_fault
use Rattle.sap_files.specs.declared.fault.DesignFault.TheVariants as design_fault
use Rattle.sap_files.specs.Ending.{Ending, Refusal as Reason, done, refused, failed, no_memory, lattice_refused, design_refused, part_refused, system_refused, wires_refused, stimulus_refused, module_refused, taint_refused, level_refused, lengths_apart, inputs_apart, wave_refused, asm_refused, IsFree}
use Rattle.sap_files.specs.Contents.{IsWellFormedText, table_by}
use Rattle.sap_files.specs.Kinds.{Kind, design_file}
use Rattle.sap_stim.specs.declared.field.Field.{Field}
use Rattle.sap_stim.specs.Stimulus.{stimulus_of}
use Rattle.sap_lines.specs.Stepping.Followed.{IsPartShown}
use Rattle.sap_lines.specs.Stepping.Pace.{Shows as ShowsOf}
use Rattle.sap_files.specs.Asks.{Asks, Cause, IsPrefix, Leaves, MayEnd, Output}
use Rattle.sap_files.specs.After.{Blames, Stands}
use Rattle.sap_files.specs.Outside.{IsUnreadable, OutsideOf}
use Rattle.sap_files.specs.declared.failure.Failure.{Failure}
use Rattle.sap_files.specs.declared.failure.Failure.TheVariants.{Refused, Desk, PartFile, Memory}
use Rattle.sap_files.specs.declared.refusal.Refusal.{Refusal}
use Rattle.sap_files.specs.declared.refusal.Refusal.TheVariants.{Lattice, Design, Part, System, Wires, Stimulus, Module, Taint, Level, Lengths, Input, Wave, Assembly}

-- Why a command is refused, as the definitions have it.
abbrev pub reason : Refusal → Reason
reason (Lattice fault) = lattice_refused fault
reason (Design fault) = design_refused fault
reason (Part part fault) = part_refused part fault
reason (System fault) = system_refused fault
reason (Wires fault) = wires_refused fault
reason (Stimulus place fault) = stimulus_refused place fault
reason (Module fault) = module_refused fault
reason (Taint fault) = taint_refused fault
reason (Level word) = level_refused word.now
reason (Lengths one other) = lengths_apart one other
reason (Input cycle name) = inputs_apart cycle name
reason (Wave fault) = wave_refused fault
reason (Assembly place fault) = asm_refused place fault

-- why the bytes of a file of each kind end a command

-- How a command fails whose lattice isn't read.
abbrev pub lattice_failure : LatFileFault → Failure
lattice_failure lattice_fault.Memory = Memory
lattice_failure fault = Refused (Lattice fault)

-- How a command fails whose design isn't read.
abbrev pub read_failure : ReadFault → Failure
read_failure read_fault.Memory = Memory
read_failure fault = Refused (Design (design_fault.Read fault))

-- How a command fails whose module isn't read.
abbrev pub module_failure : ModFault → Failure
module_failure module_fault.Memory = Memory
module_failure fault = Refused (Module fault)

-- How a command fails whose system isn't read.
abbrev pub system_failure : SysFault → Failure
system_failure system_fault.Memory = Memory
system_failure fault = Refused (System fault)

-- How a command fails whose dump isn't read.
abbrev pub wave_failure : WaveFault → Failure
wave_failure wave_fault.Memory = Memory
wave_failure fault = Refused (Wave fault)

-- How a command that fails ends.
abbrev pub ending : Failure → Ending
ending (Refused why) = refused (reason why)
ending (Desk name) = failed name.now
ending (PartFile name) = failed name
ending Memory = no_memory

-- How a command ends, by its result.
abbrev pub ending_of : {T : Type 0} → Result T Failure → Ending
ending_of (Ok x) = done
ending_of (Err e) = ending e

-- Moments

-- What is seen of a desk at one time.
pub record Moment : Type 1 where
  pub told : Option Told
  pub faults : ℕ
  pub lost : ℕ
  pub sure : Type 0

-- What is seen of a desk at a moment.
abbrev pub seen : {D : Type 0} → (D → Option Told) → (D → ℕ) → (D → ℕ) → (D → Type 0) → D → Moment
seen told faults lost sure desk = record { told = told desk; faults = faults desk; lost = lost desk; sure = sure desk }

-- Nothing changed between them.
pub record Quiet (before after : Moment) : Type 0 where
  pub told : after.told ≡ before.told
  pub faults : after.faults ≡ before.faults
  pub lost : after.lost ≡ before.lost
  pub sure : before.sure → after.sure

-- The count of faults rose, and no call was still to fail by its number.
abbrev pub FaultRose : Moment → Moment → Type 0
FaultRose before after = (after.faults ≢ before.faults) × before.sure

-- The end of a command

-- The count of faults: it rises where a call on a file or on channel 1 failed, and else stands.
abbrev pub Counted : (faults now : ℕ) → Ending → Type 0
Counted faults now done = now ≡ faults
Counted faults now (refused why) = now ≡ faults
Counted faults now (failed name) = now ≡ counted faults
Counted faults now no_memory = now ≡ faults

-- What no step changes.
pub record Same (t n : Told) : Type 0 where
  pub lines : n.written 2 ≡ t.written 2
  pub lines_use : n.uses 2 ≡ t.uses 2
  pub others : (k : ℕ) → k ≢ 1 → IsOpen (t.uses k) → n.written k ≡ t.written k
  pub room : n.room ≡ t.room

-- What a command left that ended so.
pub record Left (a : Asks) (e : Ending) (rose : Type 0) (t n : Told) : Type 0 where
  pub leaves : Leaves a t n.files e
  pub gained : List ℕ
  pub output : n.written 1 ≡ t.written 1 ++ gained
  pub shows : Output a t gained e
  pub blames : Blames t.blame n.blame e
  pub stands : Stands a t e gained t.uses n.uses
  pub same : Same t n
  pub cause : IsFree e ⊎ Cause a t e
  pub outside : rose → OutsideOf a t n

-- A command ended so, and its line isn't written yet.
pub record Ends (a : Asks) (e : Ending) (before after : Moment) : Type 0 where
  pub told : Between before.told after.told (Left a e (FaultRose before after))
  pub faults : Counted before.faults after.faults e
  pub lost : after.lost ≡ before.lost
  pub sure : before.sure → after.sure
  pub may : IsFree e ⊎ MayEnd a e

-- Files

-- What is open where the file of a name could not be read.
abbrev pub OpensUnread : (most : Option ℕ) → (name : List ℕ) → Ending → Told → (before after : ℕ → Use) → Type 0
OpensUnread most name done t before after = after ≡ before
OpensUnread most name (refused why) t before after = after ≡ before
OpensUnread most name (failed blamed) t before after = (blamed ≡ name) × OpenWithin most name t before after
OpensUnread most name no_memory t before after = after ≡ before

-- A file could not be read: all is as before but the blame, and what a failed call left open.
pub record NotRead (most : Option ℕ) (name : List ℕ) (e : Ending) (rose : Type 0) (t n : Told) : Type 0 where
  pub files : n.files ≡ t.files
  pub output : n.written 1 ≡ t.written 1
  pub same : Same t n
  pub blames : Blames t.blame n.blame e
  pub opens : OpensUnread most name e t t.uses n.uses
  pub outside : rose → IsUnreadable most name t

-- A file could not be read, by a failed call or out of memory, and the command ended there.
pub record Stops (most : Option ℕ) (name : List ℕ) (e : Ending) (before after : Moment) : Type 0 where
  pub free : IsFree e
  pub told : Between before.told after.told (NotRead most name e (FaultRose before after))
  pub faults : Counted before.faults after.faults e
  pub lost : after.lost ≡ before.lost
  pub sure : before.sure → after.sure

-- A file was read, and has these bytes.
pub record Reads (name bytes : List ℕ) (before after : Moment) : Type 0 where
  pub quiet : Quiet before after
  pub file : IfSome before.told (λ t. t.files name ≡ Some bytes)

-- The file was read whole, or the command stops there.
abbrev pub Read : (name : List ℕ) → Result (List ℕ) Failure → Moment → Moment → Type 0
Read name (Ok bytes) before after = Reads name bytes before after
Read name (Err e) before after = Stops None name (ending e) before after

-- A design file was read until more bytes were got than a design may have, or its end.
abbrev pub ReadDesign : (name : List ℕ) → Result (List ℕ) Failure → Moment → Moment → Type 0
ReadDesign name (Ok front) before after = (bytes : List ℕ) × Reads name bytes before after
    × IsFront most_bytes bytes front
ReadDesign name (Err e) before after = Stops (Some most_bytes) name (ending e) before after

-- The bytes of a file of a kind are refused so, or there was no memory.
abbrev pub Refuses : (k : Kind) → (bytes : List ℕ) → Ending → Type 0
Refuses k bytes e = (e ≡ no_memory) ⊎ ((why : Reason) × (e ≡ refused why) × k.Refused bytes why)

-- What the bytes of a file of a kind give: a value, or why there is none.
abbrev pub Gives : (k : Kind) → {T : Type 0} → (T → k.Value) → (bytes : List ℕ) → Result T Failure → Type 0
Gives k value bytes (Ok x) = k.Stands bytes (value x)
Gives k value bytes (Err e) = Refuses k bytes (ending e)

-- The levels of a lattice with the table that a lattice file has.
abbrev pub whole : Levels → Levels
whole ls = record { names = ls.names; table = table_by (length ls.names) (order_of ls).le }

-- A file read as one of a kind

-- The command ends at a file of a kind: it could not be read, or its bytes are refused.
abbrev pub EndsReading : (name : List ℕ) → Kind → Ending → Moment → Moment → Type 0
EndsReading name k e before after = Stops k.most name e before after
    ⊎ ((bytes : List ℕ) × Reads name bytes before after × Refuses k bytes e)

-- A file of a kind was read and its bytes stand for a value, or the command ended there.
abbrev pub Gets : (name : List ℕ) (k : Kind) → {T : Type 0} → (T → k.Value) → Result T Failure → Moment
    → Moment → Type 0
Gets name k value (Ok x) before after = (bytes : List ℕ) × Reads name bytes before after × k.Stands bytes (value x)
Gets name k value (Err e) before after = EndsReading name k (ending e) before after

-- A design file was read as a design that is well formed over these levels, or the command ended there.
abbrev pub GetsChecked : Levels → (name : List ℕ) → Result Checked Failure → Moment → Moment → Type 0
GetsChecked ls name (Ok c) before after = (bytes : List ℕ) × Reads name bytes before after
    × IsWellFormedText ls bytes (tree_in c) × (levels_in c ≡ ls)
GetsChecked ls name (Err e) before after = EndsReading name (design_file ls) (ending e) before after

-- A stimulus that is printed

-- There is a whole text for each part.
abbrev pub HasWhole : ShowsOf → Levels → List Field → Type 0
HasWhole shows ls fs = (bytes gained : List ℕ) → IsPartShown shows ls fs bytes gained → (whole : List ℕ)
    × shows (stimulus_of ls fs bytes).stream whole × IsPrefix gained whole
