-- The interface of the module of a system: that of each part behind the part's name, where what a wire feeds is no
-- port.
use Rattle.std.specs.Prelude.{◌≡◌, ◌<◌, ◌⊎◌, ◌&&◌, ℕ, suc, Bool, true, not, List, [], ◌∷◌, ◌++◌, length, map, Some}
use Rattle.std.specs.List.{AllByRecursion}
use Rattle.sap_maps.specs.Maps.{Name}
use Rattle.sap_maps.specs.Scope.{find}
use Rattle.sap_lattice.specs.Codes.{width_of}
use Rattle.sap_meaning.specs.Program.{width, is_input, is_register}
use Rattle.sap_net.specs.declared.parts.PortKind.TheVariants as kind
use Rattle.sap_net.specs.Net.{Net}
use Rattle.sap_net.specs.Names.{IsHelpingName}
use Rattle.sap_net.specs.PortNames.{value_name, tag_name, top_name}
use Rattle.sap_interface.specs.StandsFor.{name, world}
use Rattle.sap_interface.specs.Interface.{Shown, pairs_of, site_ports, Declared, declared_by, DeclaresPart}
use Rattle.sap_interface.specs.InterfaceNames.{IsInterfaceName}
use Rattle.sap_link.specs.Systems.{endpoint, Wire, is_fed}
use Rattle.sap_linked.specs.Parts.{Part, NamedSystem, part_at, in_part}

-- A part's ports, with their names in the module of the system.
abbrev pub ports_in : Part → List Shown → List Shown
ports_in p shown = map (λ (port : Shown). (in_part p.name port.0, port.1)) shown

-- `x` is an input of part i that no wire feeds.
abbrev pub is_free : List Wire → Part → (i : ℕ) → (x : ℕ) → Bool
is_free wires p i x = is_input (world p.design) x && not (is_fed wires (endpoint i x))

-- The free inputs of parts, i being the number of the first; all registers; all sites.
abbrev pub input_ports : List Wire → (i : ℕ) → List Part → List Shown
input_ports wires i [] = []
input_ports wires i (p ∷ ps) =
    ports_in p (pairs_of (is_free wires p i) kind.Input p.design 0 (world p.design).entities)
    ++ input_ports wires (suc i) ps

-- The ports of all parts' registers.
abbrev pub register_ports : List Part → List Shown
register_ports [] = []
register_ports (p ∷ ps) =
    ports_in p (pairs_of (is_register (world p.design)) kind.Register p.design 0 (world p.design).entities)
    ++ register_ports ps

-- The ports of all parts' refusals.
abbrev pub refusal_ports : List Part → List Shown
refusal_ports [] = []
refusal_ports (p ∷ ps) = ports_in p (site_ports 1 p.sites) ++ refusal_ports ps

-- `x` is an input of part i that a wire feeds.
abbrev pub is_fed_input : List Wire → Part → (i : ℕ) → (x : ℕ) → Bool
is_fed_input wires p i x = is_input (world p.design) x && is_fed wires (endpoint i x)

-- The wires that stand for inputs that are fed; i is the number of the first part.
abbrev pub fed_inputs : List Wire → (i : ℕ) → List Part → List Shown
fed_inputs wires i [] = []
fed_inputs wires i (p ∷ ps) =
    ports_in p (pairs_of (is_fed_input wires p i) kind.Wire p.design 0 (world p.design).entities)
    ++ fed_inputs wires (suc i) ps

-- All free inputs, then all registers, then all sites, parts in order.
abbrev pub linked_ports : NamedSystem → List Shown
linked_ports s = input_ports s.wires 0 s.parts ++ register_ports s.parts ++ refusal_ports s.parts

-- An interface name of a part.
pub record IsPartName (s : NamedSystem) (x : Name) : Type 0 where
  pub part : ℕ
  pub is_part : part < length s.parts
  pub name : Name
  pub interface : IsInterfaceName (part_at s part).design (part_at s part).sites name
  pub behind : x ≡ in_part (part_at s part).name name

-- What the module declares of part i.
pub record DeclaresLinkedPart (s : NamedSystem) (i : ℕ) (p : Part) (declared : Declared) : Type 0 where
  pub inputs : (x : ℕ) → is_free s.wires p i x ≡ true
      → (find declared.inputs (in_part p.name (value_name (name p.design x))) ≡ Some (width (world p.design) x))
      × (find declared.inputs (in_part p.name (tag_name (name p.design x))) ≡ Some (width_of s.order))
  pub fed_wires : (x : ℕ) → is_input (world p.design) x ≡ true → is_fed s.wires (endpoint i x) ≡ true
      → (find declared.wires (in_part p.name (value_name (name p.design x))) ≡ Some (width (world p.design) x))
      × (find declared.wires (in_part p.name (tag_name (name p.design x))) ≡ Some (width_of s.order))
  pub rest : DeclaresPart (in_part p.name) p.design (width_of s.order) p.sites declared

-- What it declares for the system, helping wires aside.
pub record DeclaresSystem (s : NamedSystem) (n : Net) : Type 0 where
  pub module_name : n.module_name ≡ top_name
  pub ports : (declared_by n).ports ≡ linked_ports s
  pub parts : (i : ℕ) → i < length s.parts → DeclaresLinkedPart s i (part_at s i) (declared_by n)
  -- its registers and memories have no other names
  pub register_names : AllByRecursion (λ r. IsPartName s r.name) n.registers
  pub memory_names : AllByRecursion (λ m. IsPartName s m.name) n.memories

-- A net has the interface of a system: its declarations, and no name beside the interface's and the helping wires'.
pub record HasLinkedInterface (s : NamedSystem) (n : Net) : Type 0 where
  pub declares : DeclaresSystem s n
  -- it declares nothing else but helping wires
  pub names : AllByRecursion (λ x. IsPartName s x ⊎ IsHelpingName x) n.names
