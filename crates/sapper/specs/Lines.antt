-- How the line of a call is told: the words of contracts within the crate.
use Rattle.std.specs.Prelude.{◌≡◌, ◌≢◌, ◌⊎◌, ℕ, List}
use Rattle.sap_desk.specs.Desk.{Told}
use Rattle.sap_desk.specs.Whole.{Between, Gained, LostAtMostOne}
use Rattle.sap_files.specs.Ending.{Ending, Refusal as Reason, refused, no_memory, no_command, lattice_refused, design_refused, part_refused, system_refused, wires_refused, stimulus_refused, module_refused, taint_refused, level_refused, lengths_apart, inputs_apart, wave_refused, asm_refused, status_of, line_of}
use Rattle.sap_files.specs.Steps.{Moment}
use Rattle.sapper.specs.Outside.{FullLines}

-- Standard error has a line more, or a part of it.
pub record ToldLine (line : List ℕ) (lost now : ℕ) (rose : Type 0) (t n : Told) : Type 0 where
  pub gained : Gained line lost now t n
  pub files : n.files ≡ t.files
  pub blame : n.blame ≡ t.blame
  pub output : n.written 1 ≡ t.written 1
  pub uses : n.uses ≡ t.uses
  pub room : n.room ≡ t.room
  pub full : rose → FullLines t n

-- The desk tells that standard error gained this line, and that nothing else changed.
pub record Tells (line : List ℕ) (before after : Moment) : Type 0 where
  pub told : Between before.told after.told
      (ToldLine line before.lost after.lost ((after.lost ≢ before.lost) × before.sure))
  pub faults : after.faults ≡ before.faults
  pub lost : LostAtMostOne before.lost after.lost
  pub sure : before.sure → after.sure

-- The line of a refusal takes memory, except for a stimulus, after whose lines none is taken, and for arguments that
-- are no command.
abbrev pub TakesMemory : Reason → Type 0
TakesMemory no_command = ⊥
TakesMemory (lattice_refused fault) = Unit {0}
TakesMemory (design_refused fault) = Unit {0}
TakesMemory (part_refused part fault) = Unit {0}
TakesMemory (system_refused fault) = Unit {0}
TakesMemory (wires_refused fault) = Unit {0}
TakesMemory (stimulus_refused place fault) = ⊥
TakesMemory (module_refused fault) = Unit {0}
TakesMemory (taint_refused fault) = Unit {0}
TakesMemory (level_refused word) = Unit {0}
TakesMemory (lengths_apart one other) = Unit {0}
TakesMemory (inputs_apart cycle name) = Unit {0}
TakesMemory (wave_refused fault) = Unit {0}
TakesMemory (asm_refused place fault) = Unit {0}

-- An ending is reported by its status and its line. If there is no memory for the line of a refusal, out of memory is
-- reported in its place.
pub record Reports (e : Ending) (answer : ℕ) (before after : Moment) : Type 0 where
  pub as_told : Ending
  pub is_it : (as_told ≡ e) ⊎ ((as_told ≡ no_memory) × ((why : Reason) × (e ≡ refused why) × TakesMemory why))
  pub status : answer ≡ status_of as_told
  pub line : Tells (line_of as_told) before after
