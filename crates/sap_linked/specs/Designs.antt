-- The law of linked netlists for designs: over every lattice, and all systems of designs that are well formed over it.
use Rattle.std.specs.Prelude.{◌≡◌, ℕ, List, map, Some, slice_get}
use Rattle.sap_maps.specs.Maps.{Name}
use Rattle.sap_tree.specs.Syntax.{DesignTree}
use Rattle.sap_lattice.specs.Order.{Laws}
use Rattle.sap_lattice.specs.Levels.{Levels, order_of}
use Rattle.sap_lattice.specs.Codes.{Codes}
use Rattle.sap_net.specs.Net.{Net}
use Rattle.sap_net.specs.IsNetlist.{IsNetlist}
use Rattle.sap_interface.specs.Designs.{named_of, site_count_of, StandsForDesign, StartsAsDesign}
use Rattle.sap_link.specs.Systems.{Wire}
use Rattle.sap_link.specs.Designs.{WellLinked}
use Rattle.sap_linked.specs.Parts.{Part, NamedSystem, NamesFit}
use Rattle.sap_linked.specs.Linking.{LinksParts}
use Rattle.sap_linked.specs.Standing.{RunsStand}
use Rattle.sap_linked.specs.Netlist.{linked_net}

-- A design under the name of a part.
pub record NamedDesign : Type 0 where
  pub name : Name
  pub design : DesignTree

-- The part of a named design.
abbrev pub part_of : Levels → NamedDesign → Part
part_of ls d = record { name = d.name; design = named_of ls d.design; sites = site_count_of d.design }

-- The trees of named designs.
abbrev pub trees : List NamedDesign → List DesignTree
trees ds = map (λ (d : NamedDesign). d.design) ds

-- The system of named designs and the wires between them.
abbrev pub named_system : Levels → List NamedDesign → List Wire → NamedSystem
named_system ls ds wires = record { order = order_of ls; parts = map (part_of ls) ds; wires = wires }

-- The netlist stands for the design, and starts as it does.
pub record IsNetOfDesign (ls : Levels) (d : DesignTree) (n : Net) : Type 0 where
  pub netlist : IsNetlist n
  pub stands : StandsForDesign ls d n
  pub starts : StartsAsDesign ls d n

-- A netlist that links those of well-formed designs, with wires that break no rule, stands for the composite run in
-- each of its runs.
abbrev pub LinkedDesignsStand : Type 0
LinkedDesignsStand =
    (ls : Levels) (designs : List NamedDesign) (wires : List Wire) → Laws (order_of ls)
    → Codes (order_of ls) → WellLinked ls (trees designs) wires
    → let s = named_system ls designs wires in
    (nets : ℕ → Net) (named : ℕ → Name → Name) (whole : Net)
    → ((i : ℕ) (d : NamedDesign) → slice_get designs i ≡ Some d → IsNetOfDesign ls d.design (nets i))
    → LinksParts s nets named whole → RunsStand s whole

-- And the netlist of a system of designs, whose names fit, with wires that break no rule, is a netlist.
abbrev pub LinkedDesignsAreNetlists : Type 0
LinkedDesignsAreNetlists =
    (ls : Levels) (designs : List NamedDesign) (wires : List Wire) → Codes (order_of ls)
    → WellLinked ls (trees designs) wires
    → let s = named_system ls designs wires in
    NamesFit s → (nets : ℕ → Net) → ((i : ℕ) (d : NamedDesign) → slice_get designs i ≡ Some d
    → IsNetOfDesign ls d.design (nets i)) → IsNetlist (linked_net s nets)
