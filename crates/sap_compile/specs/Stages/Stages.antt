-- When a netlist stands for all designs that nested states stand for, and starts as they do.
use Rattle.sap_tree.specs.Syntax.{DesignTree}
use Rattle.sap_lattice.specs.Levels.{Levels}
use Rattle.sap_net.specs.Net.{Net}
use Rattle.sap_ir.specs.Plain.Nested.{Nested}
use Rattle.sap_interface.specs.Designs.{StandsForDesign, StartsAsDesign}
use Rattle.sap_tagged.specs.Law.{PlainStandsForDesign}
use Rattle.sap_tags.specs.Starts.{PlainStartsAsDesign}

-- Over any lattice, the netlist stands for each design for which the nested states stand.
abbrev pub StandsForTheSame : Nested → Net → Type 0
StandsForTheSame p n = (ls : Levels) (d : DesignTree) → PlainStandsForDesign ls d p → StandsForDesign ls d n

-- Over any lattice, the netlist starts as each design as which the nested states start.
abbrev pub StartsAsTheSame : Nested → Net → Type 0
StartsAsTheSame p n = (ls : Levels) (d : DesignTree) → PlainStartsAsDesign ls d p → StartsAsDesign ls d n
