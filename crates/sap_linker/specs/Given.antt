-- What is given of a system: the designs and the netlists of its parts, under their names.
use Rattle.std.specs.Prelude.{◌≡◌, ◌<◌, ℕ, List, [], length, map, get_or, Some, slice_get}
use Rattle.std.specs.List.{AllByRecursion}
use Rattle.sap_lattice.specs.Levels.{Levels}
use Rattle.sap_tree.specs.Syntax.{DesignTree}
use Rattle.sap_names.specs.Entities.{entities_of}
use Rattle.sap_shape.specs.WellFormed.{WellFormed}
use Rattle.sap_check.specs.Checked.{tree_in}
use Rattle.sap_net.specs.Net.{Net}
use Rattle.sap_system.specs.Wires.{NamedPart, Surroundings}
use Rattle.sap_link.specs.Systems.{Endpoint, Wire}
use Rattle.sap_linked.specs.Designs.{NamedDesign, IsNetOfDesign}
use Rattle.sap_joined.specs.Joined.{NamedNet}
use Rattle.sap_linker.specs.declared.parts.LinkedPart.{LinkedPart}

-- The name and the tree of a part.
abbrev pub named_design : LinkedPart → NamedDesign
named_design p = record { name = p.name.now; design = tree_in p.checked.now }

-- The names and trees of parts.
abbrev pub designs_of : List LinkedPart → List NamedDesign
designs_of parts = map named_design parts

-- The names of designs.
abbrev pub design_names : List NamedDesign → List (List ℕ)
design_names ds = map (λ (d : NamedDesign). d.name) ds

-- The name and the netlist of a part.
abbrev pub named_net : LinkedPart → NamedNet
named_net p = record { name = p.name.now; net = p.netlist.now }

-- A part's design under its name, and its netlist.
abbrev pub design_with_net : LinkedPart → NamedDesign × Net
design_with_net p = (named_design p, p.netlist.now)

-- A part's name, and what its design declares.
abbrev pub declares : LinkedPart → NamedPart
declares p = record { name = p.name.now; entities = entities_of (tree_in p.checked.now) }

-- What the texts of wires between designs are held against.
abbrev pub surroundings : Levels → List NamedDesign → Surroundings
surroundings ls ds = record {
  parts = map
      (λ (d : NamedDesign). record { name = d.name; entities = entities_of d.design }) ds;
  levels = ls.names;
}

-- A design is well formed over these levels, and a netlist stands for it and starts as it does.
pub record HasNetlist (ls : Levels) (d : DesignTree) (n : Net) : Type 0 where
  pub formed : WellFormed ls d
  pub net : IsNetOfDesign ls d n

-- The part's netlist is that of its design over these levels.
abbrev pub IsOver : Levels → LinkedPart → Type 0
IsOver ls p = HasNetlist ls (tree_in p.checked.now) p.netlist.now

-- Each part's netlist is that of its design over these levels.
abbrev pub AreOver : Levels → List LinkedPart → Type 0
AreOver ls parts = AllByRecursion (IsOver ls) parts

-- The netlists of parts by number, and what a number past the last stands for.
abbrev pub no_net : Net
no_net = record { module_name = []; names = []; ports = []; inputs = []; wires = []; registers = []; memories = [] }

-- The netlists of parts.
abbrev pub nets_of : List LinkedPart → List Net
nets_of parts = map (λ (p : LinkedPart). p.netlist.now) parts

-- The netlist of a part by its number.
abbrev pub net_at : List LinkedPart → ℕ → Net
net_at parts i = get_or (nets_of parts) i no_net

-- The part is there, and so is its entity.
pub record IsThere (ds : List NamedDesign) (e : Endpoint) : Type 0 where
  pub design : NamedDesign
  pub is_design : slice_get ds e.part ≡ Some design
  pub entity : e.entity < length (entities_of design.design)

-- Both ends of a wire are there.
pub record Meets (ds : List NamedDesign) (w : Wire) : Type 0 where
  pub from : IsThere ds w.from
  pub to : IsThere ds w.to

-- Both ends of each wire are there.
abbrev pub WiresMeet : List NamedDesign → List Wire → Type 0
WiresMeet ds wires = AllByRecursion (Meets ds) wires
