-- The interface of a compiled module: its ports in order, and what else it declares, with their widths.
use Rattle.std.specs.Prelude.{◌≡◌, ◌<◌, ◌≤◌, ◌⊎◌, ◌^◌, ◌+◌, ℕ, zero, suc, Bool, true, false, List, [], ◌∷◌, ◌++◌, map, Some, if◌then◌else◌}
use Rattle.std.specs.List.{AllByRecursion}
use Rattle.sap_maps.specs.Maps.{Name}
use Rattle.sap_maps.specs.Scope.{Scope, find}
use Rattle.sap_meaning.specs.Program.{Entity, root, children, width, is_input, is_register, is_memory, is_state, is_dynamic}
use Rattle.sap_net.specs.declared.parts.PortKind.{PortKind}
use Rattle.sap_net.specs.declared.parts.PortKind.TheVariants as kind
use Rattle.sap_net.specs.Net.{Net}
use Rattle.sap_net.specs.IsNetlist.{shapes}
use Rattle.sap_net.specs.Rules.{Shapes}
use Rattle.sap_net.specs.PortNames.{value_name, tag_name, refused_name, refused_level_name, top_name, seat_name, root_seat}
use Rattle.sap_interface.specs.StandsFor.{Named, name, world, depth}
use Rattle.sap_net.specs.Names.{IsHelpingName}
use Rattle.sap_interface.specs.InterfaceNames.{IsInterfaceName}

-- A port is shown by its name and its kind.
abbrev pub Shown : Type 0
Shown = Name × PortKind

-- Each entity that a test of numbers picks has two ports, in order of declaration; `x` is the number of the first.
abbrev pub pairs_of : (ℕ → Bool) → PortKind → Named → (x : ℕ) → List Entity → List Shown
pairs_of picks k d x [] = []
pairs_of picks k d x (e ∷ es) =
    (if picks x then (value_name (name d x), k) ∷ (tag_name (name d x), k) ∷ [] else [])
    ++ pairs_of picks k d (x + 1) es

-- Each check site has two wires, from site `k` on.
abbrev pub site_ports : (k sites : ℕ) → List Shown
site_ports k zero = []
site_ports k (suc n) = (refused_name k, kind.Wire) ∷ (refused_level_name k, kind.Wire) ∷ site_ports (k + 1) n

-- The ports of a module for a design: inputs and registers with their tags, then two wires for each site.
abbrev pub ports_of : Named → (sites : ℕ) → List Shown
ports_of d sites =
    pairs_of (is_input (world d)) kind.Input d 0 (world d).entities
    ++ pairs_of (is_register (world d)) kind.Register d 0 (world d).entities
    ++ site_ports 1 sites

-- What a module declares: its ports in order, its inputs, wires and registers with their widths, its memories with
-- width and depth.
pub record Declared : Type 0 where
  pub ports : List Shown
  pub inputs : Scope
  pub wires : Scope
  pub registers : Scope
  pub memories : Shapes

-- What a net declares: its ports, inputs, wires, registers and memories with their widths.
abbrev pub declared_by : Net → Declared
declared_by n =
    record {
      ports = map (λ p. (p.name, p.kind)) n.ports;
      inputs = map (λ x. (x.name, x.width)) n.inputs;
      wires = map (λ x. (x.name, x.width)) n.wires;
      registers = map (λ x. (x.name, x.width)) n.registers;
      memories = shapes n;
    }

-- `u` is the smallest width, 1 or more, that can hold the numbers of `count` children, from 0.
pub record IsSeatWidth (count u : ℕ) : Type 0 where
  pub positive : 1 ≤ u
  pub holds : count ≤ 2 ^ u
  pub least : (v : ℕ) → 1 ≤ v → count ≤ 2 ^ v → u ≤ v

-- A group's register is declared with the width of its children's numbers.
abbrev pub HasSeat : (registers : Scope) → (count : ℕ) → Name → Type 0
HasSeat registers count seat = (u : ℕ) × IsSeatWidth count u × (find registers seat ≡ Some u)

-- What a module declares of one design, but for its inputs: under `named x` what the interface has under x. `tag` is
-- the width of tags.
pub record DeclaresPart (named : Name → Name) (d : Named) (tag sites : ℕ) (declared : Declared) : Type 0 where
  pub registers : (x : ℕ) → is_register (world d) x ≡ true
      → (find declared.registers (named (value_name (name d x))) ≡ Some (width (world d) x))
      × (find declared.registers (named (tag_name (name d x))) ≡ Some tag)
  pub site_wires : (k : ℕ) → 1 ≤ k → k ≤ sites
      → (find declared.wires (named (refused_name k)) ≡ Some 1)
      × (find declared.wires (named (refused_level_name k)) ≡ Some tag)
  pub memories : (m : ℕ) → is_memory (world d) m ≡ true
      → find declared.memories (named (value_name (name d m))) ≡ Some (width (world d) m, depth d m)
  pub cell_tags : (m : ℕ) → is_memory (world d) m ≡ true → is_dynamic (world d) m ≡ false
      → find declared.memories (named (tag_name (name d m))) ≡ Some (tag, depth d m)
  pub memory_tags : (m : ℕ) → is_memory (world d) m ≡ true → is_dynamic (world d) m ≡ true
      → find declared.registers (named (tag_name (name d m))) ≡ Some tag
  pub state_tags : (x : ℕ) → is_state (world d) x ≡ true → x < root (world d)
      → find declared.registers (named (tag_name (name d x))) ≡ Some tag
  pub seats : (p : ℕ) → p < root (world d) → 0 < children (world d) p
      → HasSeat declared.registers (children (world d) p) (named (seat_name (name d p)))
  pub root_seat : HasSeat declared.registers (children (world d) (root (world d))) (named root_seat)

-- The interface of one design, inputs and all, under its own names.
pub record DeclaresInterface (d : Named) (tag sites : ℕ) (declared : Declared) : Type 0 where
  pub ports : declared.ports ≡ ports_of d sites
  pub inputs : (x : ℕ) → is_input (world d) x ≡ true
      → (find declared.inputs (value_name (name d x)) ≡ Some (width (world d) x))
      × (find declared.inputs (tag_name (name d x)) ≡ Some tag)
  pub part : DeclaresPart (λ n. n) d tag sites declared
  -- its registers and memories have no other names
  pub register_names : AllByRecursion (λ r. IsInterfaceName d sites r.0) declared.registers
  pub memory_names : AllByRecursion (λ m. IsInterfaceName d sites m.0) declared.memories

-- A net has the interface of a design: its name, its declarations, and no name beside the interface's and the helping
-- wires'.
pub record HasInterface (d : Named) (tag sites : ℕ) (n : Net) : Type 0 where
  pub module_name : n.module_name ≡ top_name
  pub declares : DeclaresInterface d tag sites (declared_by n)
  -- it declares nothing else but helping wires
  pub names : AllByRecursion (λ x. IsInterfaceName d sites x ⊎ IsHelpingName x) n.names
