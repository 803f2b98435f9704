-- What holds of the wires that texts stand for.
use Rattle.std.specs.Prelude.{◌≡◌, List}
use Rattle.std.specs.List.{AllZip}
use Rattle.sap_tree.specs.Syntax.{DesignTree}
use Rattle.sap_lattice.specs.Levels.{Levels}
use Rattle.sap_names.specs.Entities.{entities_of}
use Rattle.sap_system.specs.Rules.{KeepsParts, part_names}
use Rattle.sap_system.specs.declared.file.Part.{Part}
use Rattle.sap_system.specs.Wires.{NamedPart, Surroundings, KeepsWires}
use Rattle.sap_system.specs.declared.file.WireText.{WireText}
use Rattle.sap_link.specs.Systems.{Wire, WiresFit}
use Rattle.sap_link.specs.Designs.{linked}
use Rattle.sap_wiring.specs.Wiring.{names_in, PartsNamed, AreWiresOf}

-- Texts stand for at most one list of wires.
abbrev pub OneWiring : Type 0
OneWiring = (u : Surroundings) → PartsNamed u → (texts : List WireText) (one other : List Wire)
    → AreWiresOf u texts one → AreWiresOf u texts other → one ≡ other

-- Parts with the names that a system file gives them have names that they may have.
abbrev pub FileNamesServe : Type 0
FileNamesServe = (parts : List Part) (u : Surroundings) → KeepsParts parts
    → names_in u ≡ part_names parts → PartsNamed u

-- The parts declare what these designs do, one for each, and the levels are those of a lattice.
pub record AreOfDesigns (ls : Levels) (designs : List DesignTree) (u : Surroundings) : Type 0 where
  pub parts : AllZip (λ (p : NamedPart) (d : DesignTree). p.entities ≡ entities_of d) u.parts designs
  pub levels : u.levels ≡ ls.names

-- Where texts keep the rules, the wires that they stand for break no rule of the system of these designs.
abbrev pub WiresOfTextsFit : Type 0
WiresOfTextsFit =
    (ls : Levels) (designs : List DesignTree) (u : Surroundings) → AreOfDesigns ls designs u
    → (texts : List WireText) (wires : List Wire) → KeepsWires u texts → AreWiresOf u texts wires
    → WiresFit (linked ls designs wires)
