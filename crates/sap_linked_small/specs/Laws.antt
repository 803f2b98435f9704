-- The law of netlists of which the same is seen as of the netlist of a system.
use Rattle.std.specs.Prelude.{◌≡◌, ◌<◌, ℕ, List, [], Some, length, slice_get}
use Rattle.sap_lattice.specs.Order.{Laws}
use Rattle.sap_lattice.specs.Levels.{Levels, order_of}
use Rattle.sap_lattice.specs.Codes.{Codes}
use Rattle.sap_meaning.specs.State.{first}
use Rattle.sap_net.specs.Net.{Net}
use Rattle.sap_net.specs.IsNetlist.{IsNetlist}
use Rattle.sap_net.specs.Runs.{initial}
use Rattle.sap_interface.specs.StandsFor.{world, StandsFor}
use Rattle.sap_build.specs.Copies.{through}
use Rattle.sap_trim.specs.Alike.{DeclaresAlike, RunsAlike}
use Rattle.sap_trim.specs.Trimmed.{NamesWires}
use Rattle.sap_link.specs.Systems.{Wire}
use Rattle.sap_link.specs.Laws.{FineSystem, SizedSystem}
use Rattle.sap_link.specs.Designs.{WellLinked}
use Rattle.sap_linked.specs.Parts.{NamedSystem, part_at, system_of, in_part, NamesFit}
use Rattle.sap_linked.specs.Linking.{IsNetOf}
use Rattle.sap_linked.specs.Netlist.{linked_net, without_fed}
use Rattle.sap_linked.specs.Standing.{NetStandsForSystem}
use Rattle.sap_linked.specs.Designs.{NamedDesign, trees, named_system, IsNetOfDesign}

-- The small netlist declares what the given one does and shows the same in its runs; its wires that are no ports have
-- helping names.
pub record IsSmall (given small : Net) : Type 0 where
  pub netlist : IsNetlist small
  pub declares : DeclaresAlike given small
  pub runs : RunsAlike given small
  pub wires : NamesWires small

-- The numbers before the first cycle stand, part by part, for the first state of the part's design, with nothing
-- refused.
abbrev pub NetStartsAsSystem : NamedSystem → Net → Type 0
NetStartsAsSystem s n =
    (i : ℕ) → i < length s.parts → let p = part_at s i in
    StandsFor p.design p.sites (through (in_part p.name) (initial n)) (first (world p.design)) []

-- A netlist that stands for the system, and starts as it does.
pub record IsNetOfSystem (s : NamedSystem) (n : Net) : Type 0 where
  pub netlist : IsNetlist n
  pub stands : NetStandsForSystem s n
  pub starts : NetStartsAsSystem s n

-- Where the netlist of a system is made small, what comes of it is one for the system, without the ports of what feeds
-- inputs.
abbrev pub SmallNetsStand : Type 0
SmallNetsStand =
    (s : NamedSystem) (nets : ℕ → Net) (small : Net) → Codes s.order → FineSystem (system_of s)
    → SizedSystem (system_of s) → NamesFit s
    → ((i : ℕ) → i < length s.parts → IsNetOf s.order (part_at s i) (nets i))
    → IsSmall (linked_net s nets) small → IsNetOfSystem s (without_fed s small)

-- So it is for well-formed designs over every lattice, with wires that break no rule.
abbrev pub SmallDesignsStand : Type 0
SmallDesignsStand =
    (ls : Levels) (designs : List NamedDesign) (wires : List Wire) → Laws (order_of ls)
    → Codes (order_of ls) → WellLinked ls (trees designs) wires
    → let s = named_system ls designs wires in
    NamesFit s → (nets : ℕ → Net) (small : Net)
    → ((i : ℕ) (d : NamedDesign) → slice_get designs i ≡ Some d → IsNetOfDesign ls d.design (nets i))
    → IsSmall (linked_net s nets) small → IsNetOfSystem s (without_fed s small)
