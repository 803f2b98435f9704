-- The kinds of files that commands read.
use Rattle.std.specs.Prelude.{◌≡◌, ℕ, List, Option, Some, None, Ok, Err}
use Rattle.sap_desk.specs.Desk.{Told}
use Rattle.sap_lattice.specs.Levels.{Levels}
use Rattle.sap_latfile.specs.LatticeFile.{FirstFault}
use Rattle.sap_tree.specs.Syntax.{DesignTree}
use Rattle.sap_parse.specs.Limits.{most_bytes}
use Rattle.sap_parse.specs.Text.{IsText, IsReadFault}
use Rattle.sap_meaning.specs.Cycle.{Tagged}
use Rattle.sap_stim.specs.declared.stimulus.Parsed.{Parsed}
use Rattle.sap_sim.specs.Labelled.RunOf.{read_for}
use Rattle.sap_sim.specs.Simulated.{read_for as read_for_module}
use Rattle.sap_net.specs.Net.{Net}
use Rattle.sap_vtext.specs.Modules.{IsModule}
use Rattle.sap_vread.specs.ModuleFault.{IsModuleFault}
use Rattle.sap_wave.specs.Dumps.{IsReading}
use Rattle.sap_wave.specs.Read.{IsWaveFault}
use Rattle.sap_wave.specs.Waves.{Wave}
use Rattle.sap_system.specs.Listing.{Listing}
use Rattle.sap_system.specs.SystemFile.{FirstFault as FirstSystemFault, IsSystemOfFile}
use Rattle.sap_machine.specs.Assembly.{assembled}
use Rattle.sap_files.specs.Contents.{IsLatticeFile, IsWellFormedText}
use Rattle.sap_files.specs.DesignFaults.{IsDesignFault}
use Rattle.sap_files.specs.StimulusTexts.{IsWholeStream}
use Rattle.sap_files.specs.declared.fault.DesignFault.TheVariants as design_fault
use Rattle.sap_files.specs.Ending.{Refusal, lattice_refused, design_refused, part_refused, system_refused, stimulus_refused, module_refused, wave_refused, asm_refused}

-- What a file is read as: the number of bytes behind which it is read no further, if any; when its bytes stand for a
-- value; and when they are refused, and why.
pub record Kind : Type 1 where
  pub most : Option ℕ
  pub Value : Type 0
  pub Stands : List ℕ → Value → Type 0
  pub Refused : List ℕ → Refusal → Type 0

-- Bytes stand for at most one value, or are refused for at most one reason, and not both.
pub record IsLawful (k : Kind) : Type 0 where
  pub one_value : (bytes : List ℕ) (v w : k.Value) → k.Stands bytes v → k.Stands bytes w → v ≡ w
  pub one_reason : (bytes : List ℕ) (why other : Refusal) → k.Refused bytes why → k.Refused bytes other → why ≡ other
  pub not_both : (bytes : List ℕ) (v : k.Value) (why : Refusal) → k.Stands bytes v → k.Refused bytes why → ⊥

-- There is a file of this name, and its bytes are refused.
pub record IsRefused (t : Told) (name : List ℕ) (k : Kind) (why : Refusal) : Type 0 where
  pub bytes : List ℕ
  pub file : t.files name ≡ Some bytes
  pub refused : k.Refused bytes why

-- A file of a kind is refused for a fault of its bytes; `case_of` is the refusal of a fault.
abbrev pub refused_as : {F : Type 0} → (F → Refusal) → (List ℕ → F → Type 0) → List ℕ → Refusal → Type 0
refused_as {F} case_of IsFaultOf bytes why = (fault : F) × (why ≡ case_of fault) × IsFaultOf bytes fault

-- Lattice files.
abbrev pub lattice_file : Kind
lattice_file = record {
  most = None;
  Value = Levels;
  Stands = IsLatticeFile;
  Refused = refused_as lattice_refused FirstFault;
}

-- Design files whose design is well formed over the levels of a lattice. They are read no further than shows that they
-- are too long.
abbrev pub design_file : Levels → Kind
design_file ls = record {
  most = Some most_bytes;
  Value = DesignTree;
  Stands = IsWellFormedText ls;
  Refused = refused_as design_refused (IsDesignFault ls);
}

-- Design files without a lattice: the text of a design within the limits.
abbrev pub design_text_file : Kind
design_text_file = record {
  most = Some most_bytes;
  Value = DesignTree;
  Stands = IsText;
  Refused = refused_as (λ fault. design_refused (design_fault.Read fault)) IsReadFault;
}

-- Module files.
abbrev pub module_file : Kind
module_file = record {
  most = None;
  Value = Net;
  Stands = IsModule;
  Refused = refused_as module_refused IsModuleFault;
}

-- The kind of a stimulus file, the first or the second of the arguments: every line is taken. `read` is how bytes are
-- parsed.
abbrev pub stream_by : (place : ℕ) → (read : List ℕ → Parsed) → Kind
stream_by place read = record {
  most = None;
  Value = List (List Tagged);
  Stands = IsWholeStream read;
  Refused = refused_as (stimulus_refused place) (λ bytes fault. (read bytes).fault ≡ Some fault);
}

-- The kind of a stimulus file of a design.
abbrev pub stream_file : (place : ℕ) → Levels → DesignTree → Kind
stream_file place ls d = stream_by place (read_for ls d)

-- The kind of a stimulus file of a module.
abbrev pub module_stream_file : Levels → Net → Kind
module_stream_file ls net = stream_by 1 (read_for_module ls net)

-- Value change dumps.
abbrev pub wave_file : Kind
wave_file = record {
  most = None;
  Value = Wave;
  Stands = IsReading;
  Refused = refused_as wave_refused IsWaveFault;
}

-- The kind of an assembly file, the first or the second of the arguments: it stands for its sixteen machine words.
abbrev pub assembly_file : (place : ℕ) → Kind
assembly_file place = record {
  most = None;
  Value = List ℕ;
  Stands = λ text words. assembled text ≡ Ok words;
  Refused = refused_as (asm_refused place) (λ text fault. assembled text ≡ Err fault);
}

-- System files.
abbrev pub system_file : Kind
system_file = record {
  most = None;
  Value = Listing;
  Stands = IsSystemOfFile;
  Refused = refused_as system_refused FirstSystemFault;
}

-- The design file of the part of this name, which a refusal tells.
abbrev pub part_file : Levels → (part : List ℕ) → Kind
part_file ls part = record {
  most = Some most_bytes;
  Value = DesignTree;
  Stands = IsWellFormedText ls;
  Refused = refused_as (part_refused part) (IsDesignFault ls);
}
