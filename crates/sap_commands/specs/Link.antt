-- What `link` asks: the files of a system, one after another, and what is written of them. What its steps come to.
use Rattle.std.specs.Prelude.{◌≡◌, ◌⊎◌, ℕ, List, [], ◌∷◌, length, map, take, slice_get, Option, Some, None, Result, Ok, Err, IfSome}
use Rattle.std.specs.List.{AllZip}
use Rattle.sap_desk.specs.Desk.{Told}
use Rattle.sap_lattice.specs.Levels.{Levels}
use Rattle.sap_shape.specs.WellFormed.{WellFormed}
use Rattle.sap_check.specs.Checked.{tree_in}
use Rattle.sap_net.specs.Net.{Net}
use Rattle.sap_size.specs.Items.{IsSmall}
use Rattle.sap_share.specs.Copying.{CopiesPorts}
use Rattle.sap_vtext.specs.Modules.{IsModule}
use Rattle.sap_system.specs.Wires.{Surroundings, FirstLinkFault, KeepsWires}
use Rattle.sap_system.specs.declared.file.Part.{Part}
use Rattle.sap_system.specs.declared.file.WireText.{WireText}
use Rattle.sap_system.specs.declared.link_fault.LinkFault.{LinkFault}
use Rattle.sap_system.specs.declared.link_fault.LinkFault.TheVariants as link_fault
use Rattle.sap_linked.specs.Designs.{NamedDesign, IsNetOfDesign}
use Rattle.sap_linker.specs.Given.{surroundings}
use Rattle.sap_linker.specs.Linking.{IsLinked}
use Rattle.sap_linker.specs.Sizes.{IsSmallSystem}
use Rattle.sap_explain.specs.Explained.{IsExplained}
use Rattle.sap_explain.specs.Explanation.{system_explanation}
use Rattle.sap_files.specs.Ending.{Ending, refused, failed, no_memory, part_refused, wires_refused}
use Rattle.sap_files.specs.Contents.{IsWellFormedText}
use Rattle.sap_files.specs.Kinds.{lattice_file, part_file, system_file}
use Rattle.sap_files.specs.Asks.{Asks, file, with_the, writes, stops}
use Rattle.sap_files.specs.Steps.{EndsReading, Moment, Quiet, Reads, ending}
use Rattle.sap_files.specs.declared.failure.DesignFailure.{DesignFailure}
use Rattle.sap_files.specs.declared.failure.DesignFailure.TheVariants.{Refused, Failed, Memory}
use Rattle.sap_files.specs.declared.failure.Failure.{Failure}
use Rattle.sap_files.specs.declared.failure.Failure.TheVariants as failure
use Rattle.sap_files.specs.declared.refusal.Refusal.TheVariants as refusal
use Rattle.sap_commands.specs.declared.link.LoadedPart.{LoadedPart}

-- The text is one of the module of these designs, and of the wires that these texts stand for, and the module is small.
-- The text begins with the lines that explain the module.
abbrev pub IsLinkedText : Levels → List NamedDesign → List WireText → (text : List ℕ) → Type 0
IsLinkedText ls designs wires text = (net : Net) × IsModule text net × IsLinked ls designs wires net
    × IsSmallSystem ls designs (length wires) net × IsExplained (system_explanation ls designs) text net

-- The first rule that the wires break, where they break one.
abbrev pub FirstBroken : Surroundings → List WireText → Option LinkFault → Type 0
FirstBroken u wires None = KeepsWires u wires
FirstBroken u wires (Some fault) = FirstLinkFault u wires fault

-- What is written of designs and wires, by the first rule that is broken.
abbrev pub linked_or_refused : Levels → List NamedDesign → List WireText → (out : List ℕ) → Option LinkFault → Asks
linked_or_refused ls designs wires out None = writes out (IsLinkedText ls designs wires)
linked_or_refused ls designs wires out (Some fault) = stops (wires_refused fault)

-- What a `link` asks once the designs of its parts are read: whether the wires keep the rules, then the writing.
abbrev pub asks_wired : Levels → List WireText → (out : List ℕ) → List NamedDesign → Asks
asks_wired ls wires out designs = with_the (Option LinkFault)
    (FirstBroken (surroundings ls designs) wires) (linked_or_refused ls designs wires out)

-- Reads the files of parts in order, and goes on with their designs under the names of the parts.
abbrev pub asks_parts : Levels → List Part → (List NamedDesign → Asks) → Asks
asks_parts ls [] rest = rest []
asks_parts ls (p ∷ ps) rest =
    file p.file (part_file ls p.name) (λ d. asks_parts ls ps
    (λ designs. rest (record { name = p.name; design = d } ∷ designs)))

-- What a `link` asks: a lattice, a system, and its parts.
abbrev pub asks_link : (lattice system out : List ℕ) → Asks
asks_link lattice system out = file lattice lattice_file
    (λ ls. file system system_file (λ s. asks_parts ls s.parts (asks_wired ls s.wires out)))

-- The steps of the command.

-- The name and the design of a part that was read.
abbrev pub loaded_design : LoadedPart → NamedDesign
loaded_design p = record { name = p.name; design = tree_in p.checked }

-- The names and designs of parts that were read.
abbrev pub loaded_designs : List LoadedPart → List NamedDesign
loaded_designs parts = map loaded_design parts

-- A part's design and its netlist, as it was loaded.
abbrev pub loaded_net : LoadedPart → NamedDesign × Net
loaded_net p = (loaded_design p, p.netlist)

-- Its design is well formed over these levels, and its netlist stands for the design and starts as that does; it is
-- small, and each wire of it that is a port is a copy.
pub record HasNet (ls : Levels) (p : LoadedPart) : Type 0 where
  pub formed : WellFormed ls (tree_in p.checked)
  pub net : IsNetOfDesign ls (tree_in p.checked) p.netlist
  pub small : IsSmall ls (tree_in p.checked) p.netlist
  pub copies : CopiesPorts p.netlist

-- How the command ends at a part.
abbrev pub stop_of : Part → DesignFailure → Ending
stop_of p (Refused fault) = refused (part_refused p.name fault)
stop_of p Failed = failed p.file
stop_of p Memory = no_memory

-- The design file of a part was read, and its bytes stand for its design over these levels.
pub record ReadsPart (ls : Levels) (p : Part) (d : NamedDesign) (before after : Moment) : Type 0 where
  pub name : d.name ≡ p.name
  pub bytes : List ℕ
  pub reads : Reads p.file bytes before after
  pub stands : IsWellFormedText ls bytes d.design

-- So it was, and the part was loaded; or the command ends there.
abbrev pub GetsPart : Levels → Part → Result LoadedPart DesignFailure → Moment → Moment → Type 0
GetsPart ls p (Ok loaded) before after = ReadsPart ls p (loaded_design loaded) before after × HasNet ls loaded
GetsPart ls p (Err why) before after = EndsReading p.file (part_file ls p.name) (stop_of p why) before after

-- The file of a part, on a desk that is told, has bytes that stand for a design under the part's name.
pub record HasPart (ls : Levels) (told : Option Told) (p : Part) (d : NamedDesign) : Type 0 where
  pub name : d.name ≡ p.name
  pub bytes : List ℕ
  pub file : IfSome told (λ t. t.files p.file ≡ Some bytes)
  pub stands : IsWellFormedText ls bytes d.design

-- The files of parts were read in order, and nothing changed.
pub record ReadsParts (ls : Levels) (parts : List Part) (designs : List NamedDesign)
    (before after : Moment) : Type 0 where
  pub quiet : Quiet before after
  pub have : AllZip (HasPart ls before.told) parts designs

-- The command ends at the part of this place, from 0, those before it having designs.
pub record EndsAtPart (ls : Levels) (parts : List Part) (place : ℕ) (why : DesignFailure)
    (before after : Moment) : Type 0 where
  pub part : Part
  pub is_part : slice_get parts place ≡ Some part
  pub designs : List NamedDesign
  pub have : AllZip (HasPart ls before.told) (take place parts) designs
  pub ends : EndsReading part.file (part_file ls part.name) (stop_of part why) before after

-- How a command fails whose wires break a rule.
abbrev pub wires_failure : LinkFault → Failure
wires_failure link_fault.Memory = failure.Memory
wires_failure fault = failure.Refused (refusal.Wires fault)

-- What linking parts gives: the text of a module, or the first rule that a wire breaks.
abbrev pub Links : Levels → List NamedDesign → List WireText → Result (List ℕ) Failure → Type 0
Links ls designs wires (Ok text) = KeepsWires (surroundings ls designs) wires × IsLinkedText ls designs wires text
Links ls designs wires (Err e) =
    (ending e ≡ no_memory) ⊎ ((fault : LinkFault) × FirstLinkFault (surroundings ls designs) wires fault
    × (ending e ≡ refused (wires_refused fault)))
