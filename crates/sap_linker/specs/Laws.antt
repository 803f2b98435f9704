-- What holds of the names of parts, and of what comes of the netlist of a system when it is made small.
use Rattle.std.specs.Prelude.{◌≡◌, ℕ, List, Some, map, slice_get}
use Rattle.sap_lattice.specs.Order.{Laws}
use Rattle.sap_lattice.specs.Levels.{Levels, order_of}
use Rattle.sap_lattice.specs.Codes.{Codes}
use Rattle.sap_net.specs.Net.{Net}
use Rattle.sap_trim.specs.Names.{port_names}
use Rattle.sap_compile.specs.Tidy.{IsTidy}
use Rattle.sap_system.specs.Rules.{KeepsParts, part_names}
use Rattle.sap_system.specs.declared.file.Part.{Part}
use Rattle.sap_system.specs.Wires.{Surroundings}
use Rattle.sap_link.specs.Systems.{Wire}
use Rattle.sap_link.specs.Designs.{WellLinked}
use Rattle.sap_linked.specs.Parts.{NamedSystem, NamesFit}
use Rattle.sap_linked.specs.Parts.{Part as SystemPart}
use Rattle.sap_linked.specs.Netlist.{linked_net, without_fed}
use Rattle.sap_linked.specs.Designs.{NamedDesign, trees, named_system, IsNetOfDesign}
use Rattle.sap_linked_small.specs.Laws.{IsSmall}
use Rattle.sap_wiring.specs.Wiring.{PartsNamed, names_in}
use Rattle.sap_linker.specs.Modules.{IsModuleOfSystem}

-- The names of a system's parts.
abbrev pub names_of : NamedSystem → List (List ℕ)
names_of s = map (λ (p : SystemPart). p.name) s.parts

-- Parts with names that they may have, by the rules on names of parts, have names that stay apart in the module of the
-- system.
abbrev pub NamedPartsFit : Type 0
NamedPartsFit = (u : Surroundings) (s : NamedSystem) → PartsNamed u → names_of s ≡ names_in u → NamesFit s

-- Parts with the names that a system file gives them have names that stay apart in the module of the system.
abbrev pub FileNamesFit : Type 0
FileNamesFit = (parts : List Part) (s : NamedSystem) → KeepsParts parts → names_of s ≡ part_names parts → NamesFit s

-- Where the netlist of a system is made small, and no wire of what comes of it is needless, that is the module of the
-- system, without the ports of what feeds inputs.
abbrev pub SmallNetsAreModules : Type 0
SmallNetsAreModules =
    (ls : Levels) (designs : List NamedDesign) (wires : List Wire) → Laws (order_of ls)
    → Codes (order_of ls) → WellLinked ls (trees designs) wires
    → let s = named_system ls designs wires in
    NamesFit s → (nets : ℕ → Net) (small : Net)
    → ((i : ℕ) (d : NamedDesign) → slice_get designs i ≡ Some d → IsNetOfDesign ls d.design (nets i))
    → IsSmall (linked_net s nets) small → IsTidy (port_names small) small
    → IsModuleOfSystem ls designs wires (without_fed s small)
