-- A system to which the designs of parts are added in order.
use Rattle.std.specs.Prelude.{◌≡◌, List, [], ◌∷◌, ◌++◌, map}
use Rattle.std.specs.List.{AllByRecursion}
use Rattle.sap_lattice.specs.Levels.{Levels}
use Rattle.sap_check.specs.Checked.{tree_in}
use Rattle.sap_check.specs.declared.checked.Checked.{Checked}
use Rattle.sap_net.specs.Net.{Net}
use Rattle.sap_system.specs.Listing.{Listing}
use Rattle.sap_system.specs.Wires.{Surroundings}
use Rattle.sap_system.specs.declared.file.Part.{Part}
use Rattle.sap_linked.specs.Designs.{NamedDesign}
use Rattle.sap_linker.specs.Given.{HasNetlist, surroundings}
use Rattle.sap_linker.specs.declared.parts.AddedPart.{AddedPart}

-- A system as its file lists it, over the levels of a lattice, and what was added for its first parts.
pub record Adding : Type 0 where
  pub system : Listing
  pub levels : Levels
  pub parts : List AddedPart

-- Each design that was added, under the name of its part, with its netlist.
abbrev pub under_names : List Part → List AddedPart → List (NamedDesign × Net)
under_names [] added = []
under_names (l ∷ ls) [] = []
under_names (l ∷ ls) (p ∷ ps) = (
  record { name = l.name; design = tree_in p.checked.now },
  p.netlist.now,
) ∷ under_names ls ps

-- The designs that have been added, under their names.
abbrev pub added_designs : Adding → List NamedDesign
added_designs a = map (λ (p : NamedDesign × Net). p.0) (under_names a.system.parts a.parts)

-- The netlists of the designs that have been added.
abbrev pub added_nets : Adding → List Net
added_nets a = map (λ (p : NamedDesign × Net). p.1) (under_names a.system.parts a.parts)

-- What the texts of the system's wires are held against.
abbrev pub surroundings_of : Adding → Surroundings
surroundings_of a = surroundings a.levels (added_designs a)

-- Their designs are well formed over these levels, and each netlist stands for its design and starts as that does.
abbrev pub AreAddedOver : Levels → List AddedPart → Type 0
AreAddedOver ls parts = AllByRecursion (λ (p : AddedPart). HasNetlist ls (tree_in p.checked.now) p.netlist.now) parts

-- One part more: this design and this netlist.
pub record AddsPart (old new : Adding) (checked : Checked) (netlist : Net) : Type 0 where
  pub part : AddedPart
  pub design : part.checked.now ≡ checked
  pub net : part.netlist.now ≡ netlist
  pub added : new ≡ record { system = old.system; levels = old.levels; parts = old.parts ++ part ∷ [] }
