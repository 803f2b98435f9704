-- What comes of a system.
use Rattle.std.specs.Prelude.{◌+◌, ℕ, List, [], ◌∷◌, take, length}
use Rattle.sap_lattice.specs.Levels.{Levels}
use Rattle.sap_net.specs.Net.{Net}
use Rattle.sap_system.specs.declared.file.WireText.{WireText}
use Rattle.sap_link.specs.Systems.{Wire}
use Rattle.sap_linked.specs.Designs.{NamedDesign}
use Rattle.sap_wiring.specs.Wiring.{AreWiresOf}
use Rattle.sap_linker.specs.declared.parts.LinkedPart.{LinkedPart}
use Rattle.sap_linker.specs.Given.{surroundings}
use Rattle.sap_linker.specs.Modules.{IsModuleOfSystem}

-- It is the module of the designs and of the wires that the texts stand for.
pub record IsLinked (ls : Levels) (ds : List NamedDesign) (texts : List WireText) (n : Net) : Type 0 where
  pub wires : List Wire
  pub of_texts : AreWiresOf (surroundings ls ds) texts wires
  pub is_module : IsModuleOfSystem ls ds wires n

-- The netlist with so many of its ports.
abbrev pub with_ports : (count : ℕ) → Net → Net
with_ports count n =
    record {
      module_name = n.module_name;
      names = n.names;
      ports = take count n.ports;
      inputs = n.inputs;
      wires = n.wires;
      registers = n.registers;
      memories = n.memories;
    }

-- How many inputs the netlists of some parts have.
abbrev pub inputs_within : List LinkedPart → ℕ
inputs_within [] = 0
inputs_within (p ∷ ps) = length p.netlist.now.inputs + inputs_within ps
