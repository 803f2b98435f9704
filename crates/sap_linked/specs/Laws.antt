-- The laws of netlists that link the netlists of parts.
use Rattle.std.specs.Prelude.{◌≡◌, ◌<◌, ◌≤◌, ℕ, true, ◌++◌, length, map}
use Rattle.std.specs.List.{list_all}
use Rattle.sap_maps.specs.Maps.{Name}
use Rattle.sap_lattice.specs.Codes.{Codes}
use Rattle.sap_net.specs.declared.parts.Input.{Input}
use Rattle.sap_net.specs.Names.{is_inner, AreDistinct}
use Rattle.sap_net.specs.Net.{Net}
use Rattle.sap_net.specs.IsNetlist.{input_names, IsNetlist}
use Rattle.sap_interface.specs.StandsFor.{Named}
use Rattle.sap_interface.specs.Interface.{Shown, declared_by, DeclaresPart, HasInterface}
use Rattle.sap_interface.specs.InterfaceNames.{IsInterfaceName}
use Rattle.sap_build.specs.Copies.{KeepsApart}
use Rattle.sap_build.specs.Parts.{IsPart}
use Rattle.sap_link.specs.Systems.{free_inputs, WiresFit}
use Rattle.sap_link.specs.Laws.{FineSystem, SizedSystem}
use Rattle.sap_linked.specs.Parts.{NamedSystem, part_at, system_of, in_part, has_no_underscore, NamesFit}
use Rattle.sap_linked.specs.Linking.{IsNetOf, inputs_for, LinksParts}
use Rattle.sap_linked.specs.Interface.{input_ports, DeclaresSystem}
use Rattle.sap_linked.specs.Standing.{RunsStand}
use Rattle.sap_linked.specs.Netlist.{inner_names, linked_net, without_fed}

-- Names of two bytes or more are told apart in the module of a system, and so are those of two parts whose names have
-- no `_`.
abbrev pub NamesStayApart : Type 0
NamesStayApart =
    (part other : Name) (x y : Name) → has_no_underscore part ≡ true → has_no_underscore other ≡ true
    → 2 ≤ length x → 2 ≤ length y
    → in_part part x ≡ in_part other y → (part ≡ other) × (x ≡ y)

-- So behind the name of a part the names of a netlist with a design's interface stay apart, and are names that a module
-- can have.
abbrev pub PartsKeepApart : Type 0
PartsKeepApart =
    (part : Name) (d : Named) (tag sites : ℕ) (n : Net) → has_no_underscore part ≡ true
    → list_all is_inner part ≡ true → IsNetlist n → HasInterface d tag sites n
    → KeepsApart (in_part part) n

-- What a stream gives, the value and the tag of each free input, comes in the order of the ports.
abbrev pub InputsInOrder : Type 0
InputsInOrder = (s : NamedSystem)
    → map (λ (i : Input). i.name) (inputs_for s (free_inputs (system_of s)))
    ≡ map (λ (port : Shown). port.0) (input_ports s.wires 0 s.parts)

-- Where each part's netlist stands for its design, one that links them stands for the composite run in each of its
-- runs.
abbrev pub LinkedNetsStand : Type 0
LinkedNetsStand =
    (s : NamedSystem) (nets : ℕ → Net) (named : ℕ → Name → Name) (whole : Net) → Codes s.order
    → FineSystem (system_of s) → SizedSystem (system_of s)
    → ((i : ℕ) → i < length s.parts → IsNetOf s.order (part_at s i) (nets i))
    → LinksParts s nets named whole → RunsStand s whole

-- What a netlist declares of a design, one in which it stands declares too, under its names there.
abbrev pub PartsDeclare : Type 0
PartsDeclare =
    (named behind : Name → Name) (d : Named) (tag sites : ℕ) (part whole : Net)
    → IsPart named part whole → DeclaresPart (λ x. x) d tag sites (declared_by part)
    → ((x : Name) → IsInterfaceName d sites x → named x ≡ behind x)
    → DeclaresPart behind d tag sites (declared_by whole)

-- The netlist of a system links the netlists of its parts, where it is a netlist.
abbrev pub LinkedNetLinks : Type 0
LinkedNetLinks =
    (s : NamedSystem) (nets : ℕ → Net) → ((i : ℕ) → i < length s.parts
    → IsNetOf s.order (part_at s i) (nets i)) → IsNetlist (linked_net s nets)
    → LinksParts s nets (λ i. in_part (part_at s i).name) (linked_net s nets)

-- And it declares what the module of the system is to declare, under the same condition, where no port shows what
-- feeds.
abbrev pub LinkedNetDeclares : Type 0
LinkedNetDeclares =
    (s : NamedSystem) (nets : ℕ → Net) → ((i : ℕ) → i < length s.parts
    → IsNetOf s.order (part_at s i) (nets i)) → IsNetlist (linked_net s nets)
    → DeclaresSystem s (without_fed s (linked_net s nets))

-- Where the names of parts and the wires break no rule, no two inputs, wires, registers or memories of the netlist of a
-- system have one name.
abbrev pub AllNamesDiffer : Type 0
AllNamesDiffer =
    (s : NamedSystem) (nets : ℕ → Net) → NamesFit s → WiresFit (system_of s)
    → ((i : ℕ) → i < length s.parts → IsNetOf s.order (part_at s i) (nets i))
    → AreDistinct (input_names (linked_net s nets) ++ inner_names s nets)

-- So the netlist of a system is a netlist, as each part's is.
abbrev pub LinkedNetIsNetlist : Type 0
LinkedNetIsNetlist =
    (s : NamedSystem) (nets : ℕ → Net) → Codes s.order → NamesFit s → WiresFit (system_of s)
    → ((i : ℕ) → i < length s.parts → IsNetOf s.order (part_at s i) (nets i))
    → IsNetlist (linked_net s nets)
