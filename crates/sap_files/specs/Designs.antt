-- What a design file gives over the levels of a lattice, and why it gives no design.
use Rattle.std.specs.Prelude.{◌≡◌, ℕ, List, Some, Result, Ok, Err}
use Rattle.sap_desk.specs.Whole.{IsFront}
use Rattle.sap_lattice.specs.Levels.{Levels}
use Rattle.sap_parse.specs.Limits.{most_bytes}
use Rattle.sap_lex.specs.declared.fault.ReadFault.{ReadFault}
use Rattle.sap_lex.specs.declared.fault.ReadFault.TheVariants as read_fault
use Rattle.sap_names.specs.declared.fault.CheckFault.{CheckFault}
use Rattle.sap_names.specs.declared.fault.CheckFault.TheVariants as check_fault
use Rattle.sap_check.specs.Checked.{levels_in, tree_in}
use Rattle.sap_check.specs.declared.checked.Checked.{Checked}
use Rattle.sap_files.specs.Contents.{IsWellFormedText}
use Rattle.sap_files.specs.DesignFaults.{IsDesignFault}
use Rattle.sap_files.specs.Ending.{Ending, refused, failed, no_memory, design_refused}
use Rattle.sap_files.specs.Kinds.{design_file}
use Rattle.sap_files.specs.Steps.{EndsReading, Moment, Reads, Stops}
use Rattle.sap_files.specs.declared.fault.DesignFault.TheVariants.{Read, Check}
use Rattle.sap_files.specs.declared.failure.DesignFailure.{DesignFailure}
use Rattle.sap_files.specs.declared.failure.DesignFailure.TheVariants.{Refused, Failed, Memory}

-- why there is none, by what reading the text or checking its design comes to

-- Why a design file gives no design whose text isn't read.
abbrev pub unread : ReadFault → DesignFailure
unread read_fault.Memory = Memory
unread fault = Refused (Read fault)

-- Why a design file gives no design that isn't well formed.
abbrev pub unchecked : CheckFault → DesignFailure
unchecked check_fault.Memory = Memory
unchecked fault = Refused (Check fault)

-- How a command ends for which the design file of this name gives none.
abbrev pub design_ending : (name : List ℕ) → DesignFailure → Ending
design_ending name (Refused fault) = refused (design_refused fault)
design_ending name Failed = failed name
design_ending name Memory = no_memory

-- A design file was read until more bytes were got than a design may have, or its end.
abbrev pub ReadsDesign : (name : List ℕ) → Result (List ℕ) DesignFailure → Moment → Moment → Type 0
ReadsDesign name (Ok front) before after = (bytes : List ℕ) × Reads name bytes before after
    × IsFront most_bytes bytes front
ReadsDesign name (Err e) before after = Stops (Some most_bytes) name (design_ending name e) before after

-- What the bytes of a design file give: a checked design, or why there is none.
abbrev pub IsChecked : Levels → (source : List ℕ) → Result Checked DesignFailure → Type 0
IsChecked ls source (Ok c) = IsWellFormedText ls source (tree_in c) × (levels_in c ≡ ls)
IsChecked ls source (Err (Refused fault)) = IsDesignFault ls source fault
IsChecked ls source (Err Failed) = ⊥
IsChecked ls source (Err Memory) = Unit {0}

-- A design file was read as a design that is well formed over these levels, or the command ended there.
abbrev pub GetsDesign : Levels → (name : List ℕ) → Result Checked DesignFailure → Moment → Moment → Type 0
GetsDesign ls name (Ok c) before after = (bytes : List ℕ) × Reads name bytes before after
    × IsWellFormedText ls bytes (tree_in c) × (levels_in c ≡ ls)
GetsDesign ls name (Err e) before after = EndsReading name (design_file ls) (design_ending name e) before after
