-- How a call ends: its status, and the line on channel 2.
use Rattle.std.specs.Prelude.{ℕ, List, [], ◌++◌, codes}
use Rattle.std.specs.Fmt.{decimal}
pub use Rattle.sap_text.specs.Places.{line}
use Rattle.sap_latfile.specs.FaultTexts.{lattice_text}
use Rattle.sap_latfile.specs.declared.fault.LatFileFault.{LatFileFault}
use Rattle.sap_lex.specs.FaultTexts.{read_text}
use Rattle.sap_names.specs.FaultTexts.{check_text}
use Rattle.sap_files.specs.declared.fault.DesignFault.{DesignFault}
use Rattle.sap_files.specs.declared.fault.DesignFault.TheVariants.{Read, Check}
use Rattle.sap_vread.specs.FaultTexts.{module_text}
use Rattle.sap_vread.specs.declared.fault.ModFault.{ModFault}
use Rattle.sap_taint_pass.specs.FaultTexts.{taint_text}
use Rattle.sap_taint_pass.specs.declared.fault.TaintFault.{TaintFault}
use Rattle.sap_stim.specs.FaultTexts.{stimulus_text}
use Rattle.sap_stim.specs.declared.fault.StimFault.{StimFault}
use Rattle.sap_wave.specs.FaultTexts.{wave_text}
use Rattle.sap_wave.specs.declared.fault.WaveFault.{WaveFault}
use Rattle.sap_system.specs.FaultTexts.{system_text, wire_text}
use Rattle.sap_system.specs.declared.fault.SysFault.{SysFault}
use Rattle.sap_system.specs.declared.link_fault.LinkFault.{LinkFault}
use Rattle.sap_machine.specs.Text.{refusal_text as assembly_text}
use Rattle.sap_machine.specs.declared.fault.AsmFault.{AsmFault}

-- What is refused of the words and files, and why.
pub data Refusal : Type 0 where
  no_command : Refusal
  lattice_refused : LatFileFault → Refusal
  design_refused : DesignFault → Refusal
  -- the design of the part of this name in a system
  part_refused : (part : List ℕ) → DesignFault → Refusal
  -- a system file, and the wires that it lists
  system_refused : SysFault → Refusal
  wires_refused : LinkFault → Refusal
  -- the first stimulus of the words, or the second
  stimulus_refused : (place : ℕ) → StimFault → Refusal
  module_refused : ModFault → Refusal
  -- a module has no name left for a tag
  taint_refused : TaintFault → Refusal
  -- the word is no level of the lattice
  level_refused : (word : List ℕ) → Refusal
  -- two streams have not as many cycles; or they first don't agree in this cycle, at this input
  lengths_apart : (one other : ℕ) → Refusal
  inputs_apart : (cycle : ℕ) (name : List ℕ) → Refusal
  wave_refused : WaveFault → Refusal
  -- the first assembly file of the words, or the second
  asm_refused : (place : ℕ) → AsmFault → Refusal

-- How a command ends: done, refused for a reason, by a failed call, or out of memory.
pub data Ending : Type 0 where
  done : Ending
  refused : Refusal → Ending
  -- a call on a file or on the output failed: the file's name, or `output`
  failed : List ℕ → Ending
  no_memory : Ending

-- The exit status of a refusal.
abbrev pub status_of_refusal : Refusal → ℕ
status_of_refusal (design_refused fault) = 1
status_of_refusal (part_refused part fault) = 1
status_of_refusal no_command = 2
status_of_refusal (level_refused word) = 2
status_of_refusal (lattice_refused fault) = 3
status_of_refusal (stimulus_refused place fault) = 4
status_of_refusal (module_refused fault) = 5
status_of_refusal (taint_refused fault) = 5
status_of_refusal (lengths_apart one other) = 8
status_of_refusal (inputs_apart cycle name) = 8
status_of_refusal (system_refused fault) = 9
status_of_refusal (wires_refused fault) = 9
status_of_refusal (wave_refused fault) = 10
status_of_refusal (asm_refused place fault) = 11

-- The exit status of an ending.
abbrev pub status_of : Ending → ℕ
status_of done = 0
status_of (refused why) = status_of_refusal why
status_of (failed name) = 6
status_of no_memory = 7

-- The ending has no cause in words and files.
abbrev pub IsFree : Ending → Type 0
IsFree done = ⊥
IsFree (refused why) = ⊥
IsFree (failed name) = Unit {0}
IsFree no_memory = Unit {0}

-- How a fault of a design is written.
abbrev pub design_text : DesignFault → List ℕ
design_text (Read fault) = read_text fault
design_text (Check fault) = check_text fault

-- The text of a refusal on standard error, without the end of its line.
abbrev pub refusal_text : Refusal → List ℕ
refusal_text no_command = codes "words"
refusal_text (lattice_refused fault) = codes "lattice: " ++ lattice_text fault
refusal_text (design_refused fault) = codes "design: " ++ design_text fault
refusal_text (part_refused part fault) = codes "part " ++ part ++ codes ": " ++ design_text fault
refusal_text (system_refused fault) = codes "system: " ++ system_text fault
refusal_text (wires_refused fault) = codes "system: " ++ wire_text fault
refusal_text (stimulus_refused place fault) = codes "stimulus " ++ decimal place ++ codes ": " ++ stimulus_text fault
refusal_text (module_refused fault) = codes "module: " ++ module_text fault
refusal_text (taint_refused fault) = codes "module: " ++ taint_text fault
refusal_text (level_refused word) = codes "level " ++ word
refusal_text (lengths_apart one other) = codes "streams: lengths " ++ decimal one ++ codes " and " ++ decimal other
refusal_text (inputs_apart cycle name) = codes "streams: cycle " ++ decimal cycle ++ codes " input " ++ name
refusal_text (wave_refused fault) = codes "wave: " ++ wave_text fault
refusal_text (asm_refused place fault) = assembly_text place fault

-- What an ending writes on standard error: its line, or nothing if the command is done.
abbrev pub line_of : Ending → List ℕ
line_of done = []
line_of (refused why) = line (refusal_text why)
line_of (failed name) = line (codes "desk: " ++ name)
line_of no_memory = line (codes "memory")
