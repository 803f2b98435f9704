-- What the type of netlists keeps: that a netlist is one that the module subset can write, without a fault.
use Rattle.std.specs.Prelude.{◌≡◌, ℕ, Bool, true, false, List, ◌++◌, map, filter, take, length, unwrap_or}
use Rattle.std.specs.List.{AllByRecursion}
use Rattle.sap_maps.specs.Maps.{Name}
use Rattle.sap_maps.specs.Scope.{Scope, find}
use Rattle.sap_net.specs.declared.parts.PortKind.{PortKind}
use Rattle.sap_net.specs.declared.parts.PortKind.TheVariants as kind
use Rattle.sap_net.specs.declared.parts.Wire.{Wire}
use Rattle.sap_net.specs.Net.{Net}
use Rattle.sap_net.specs.Names.{is_name, is_among, AreDistinct}
use Rattle.sap_net.specs.Rules.{Shapes, AreWires, readable_after, IsRegister, IsMemory, AreValues, AreMemories}

-- The names of the inputs.
abbrev pub input_names : Net → List Name
input_names n = map (λ x. x.name) n.inputs

-- The names of wires.
abbrev pub names_of : List Wire → List Name
names_of ws = map (λ w. w.name) ws

-- The names of the wires.
abbrev pub wire_names : Net → List Name
wire_names n = names_of n.wires

-- The names of the registers.
abbrev pub register_names : Net → List Name
register_names n = map (λ x. x.name) n.registers

-- The names of the memories.
abbrev pub memory_names : Net → List Name
memory_names n = map (λ x. x.name) n.memories

-- The inputs and registers can be read from the start, with their widths.
abbrev pub first_readable : Net → Scope
first_readable n = map (λ x. (x.name, x.width)) n.inputs ++ map (λ x. (x.name, x.width)) n.registers

-- The inputs, registers and wires can be read.
abbrev pub readable : Net → Scope
readable n = readable_after (first_readable n) n.wires

-- Width and depth of each memory, by its name.
abbrev pub shapes : Net → Shapes
shapes n = map (λ x. (x.name, (x.width, x.depth))) n.memories

-- `width_of` is the width of an input, register or wire, and 0 for any other name.
abbrev pub width_of : Net → Name → ℕ
width_of n x = unwrap_or (find (readable n) x) 0

-- The net has the input, register or wire that a port of this kind and name shows.
abbrev pub PortShows : Net → PortKind → Name → Type 0
PortShows n kind.Input x = is_among x (input_names n) ≡ true
PortShows n kind.Register x = is_among x (register_names n) ≡ true
PortShows n kind.Wire x = is_among x (wire_names n) ≡ true

-- The kind of an input port.
abbrev pub is_input : PortKind → Bool
is_input kind.Input = true
is_input kind.Register = false
is_input kind.Wire = false

-- A net is a netlist: names are declared once and in order, ports come first, each operand has its width and is
-- readable where it is read, and no start is past its width.
pub record IsNetlist (n : Net) : Type 0 where
  -- names
  pub module_named : is_name n.module_name ≡ true
  pub named : AllByRecursion (λ x. is_name x ≡ true) n.names
  pub declared_once : AreDistinct n.names
  -- a name is declared exactly where something has it
  pub declared : (x : Name) → is_among x n.names
      ≡ is_among x (input_names n ++ wire_names n ++ register_names n ++ memory_names n)
  pub registers_in_order : filter (λ x. is_among x (register_names n)) n.names ≡ register_names n
  pub memories_in_order : filter (λ x. is_among x (memory_names n)) n.names ≡ memory_names n
  -- ports
  pub ports_first : map (λ p. p.name) n.ports ≡ take (length n.ports) n.names
  pub ports_show : AllByRecursion (λ p. PortShows n p.kind p.name) n.ports
  pub inputs_are_ports : map (λ p. p.name) (filter (λ p. is_input p.kind) n.ports) ≡ input_names n
  -- one name one thing, used after it is there, and widths
  pub values : AreValues (shapes n) (first_readable n)
  pub memory_shapes : AreMemories (shapes n)
  pub assigns : AreWires (shapes n) (first_readable n) n.wires
  pub nexts : AllByRecursion (IsRegister (readable n)) n.registers
  pub writes : AllByRecursion (IsMemory (readable n)) n.memories
