-- The netlists and the feeds of a system, by the names of its parts and entities; and the law that joined they are the
-- netlist of the system.
use Rattle.std.specs.Prelude.{◌≡◌, ◌<◌, ℕ, suc, List, [], ◌∷◌, map, length}
use Rattle.std.specs.Option.{option_map}
use Rattle.sap_lattice.specs.Codes.{code_of, width_of}
use Rattle.sap_net.specs.Net.{Net}
use Rattle.sap_interface.specs.StandsFor.{name}
use Rattle.sap_link.specs.Systems.{Wire, width_at, WiresFit}
use Rattle.sap_linked.specs.Parts.{Part, NamedSystem, part_at, system_of, NamesFit}
use Rattle.sap_linked.specs.Linking.{IsNetOf}
use Rattle.sap_linked.specs.Netlist.{linked_net}
use Rattle.sap_joined.specs.Joined.{NamedNet, Feed, joined}

-- The netlist of each part under the part's name; i is the number of the first part.
abbrev pub nets_from : (nets : ℕ → Net) → (i : ℕ) → List Part → List NamedNet
nets_from nets i [] = []
nets_from nets i (p ∷ ps) = record { name = p.name; net = nets i } ∷ nets_from nets (suc i) ps

-- The netlists of a system's parts with their names.
abbrev pub named_nets : NamedSystem → (nets : ℕ → Net) → List NamedNet
named_nets s nets = nets_from nets 0 s.parts

-- A wire by names, with the code of its level.
abbrev pub feed_of : NamedSystem → Wire → Feed
feed_of s w =
    let from = part_at s w.from.part in
    let to = part_at s w.to.part in
    record {
      from_part = from.name;
      from = name from.design w.from.entity;
      to_part = to.name;
      to = name to.design w.to.entity;
      width = width_at (system_of s) w.to;
      level = option_map (code_of s.order) w.level;
    }

-- The wires between a system's parts, by names.
abbrev pub feeds_of : NamedSystem → List Feed
feeds_of s = map (feed_of s) s.wires

-- Where names of parts and wires break no rule, and each netlist stands for its part's design.
abbrev pub JoinedIsLinked : Type 0
JoinedIsLinked =
    (s : NamedSystem) (nets : ℕ → Net) → NamesFit s → WiresFit (system_of s)
    → ((i : ℕ) → i < length s.parts → IsNetOf s.order (part_at s i) (nets i))
    → linked_net s nets ≡ joined (width_of s.order) (named_nets s nets) (feeds_of s)
