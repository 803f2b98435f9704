-- The file that is printed for a netlist: the ports, the other declarations in the order of the netlist's names,
-- `integer i` where there are memories, the assigns, the first contents, and what is taken at each edge. All places in
-- it are 0.
use Rattle.std.specs.Prelude.{ℕ, ◌-◌, List, [], ◌∷◌, ◌++◌, Option, Some, None, map, flat_map, drop, length}
use Rattle.sap_maps.specs.Maps.{Name}
use Rattle.sap_maps.specs.Scope.{find}
use Rattle.sap_net.specs.declared.parts.Operand.{Operand}
use Rattle.sap_net.specs.declared.parts.Operand.TheVariants.{Named, Constant}
use Rattle.sap_net.specs.declared.parts.Right.{Right}
use Rattle.sap_net.specs.declared.parts.Right.TheVariants.{Copy, One, Two, Choose, Concat, Slice, Cell}
use Rattle.sap_net.specs.declared.parts.PortKind.{PortKind}
use Rattle.sap_net.specs.declared.parts.PortKind.TheVariants as kind
use Rattle.sap_net.specs.declared.parts.Port.{Port}
use Rattle.sap_net.specs.declared.parts.Wire.{Wire}
use Rattle.sap_net.specs.declared.parts.Register.{Register}
use Rattle.sap_net.specs.declared.parts.Memory.{Memory}
use Rattle.sap_net.specs.Net.{Net}
use Rattle.sap_vtext.specs.Names.{Shape, input, wire, register, memory}
use Rattle.sap_vtext.specs.Widths.{shape_width}
use Rattle.sap_vtext.specs.Items as item
use Rattle.sap_vprint.specs.Text.{text_of, direction_pieces}

-- Names, numbers and constants at place 0.
abbrev pub mention : Name → item.Mention
mention x = record { place = 0; name = x }

-- A number, without a place.
abbrev pub number : ℕ → item.Number
number n = record { place = 0; value = n }

-- A constant, without a place.
abbrev pub constant : ℕ → ℕ → item.Constant
constant width n = record { place = 0; width = width; value = n }

-- The text's operand for a netlist's.
abbrev pub operand_of : Operand → item.Operand
operand_of (Named x) = item.named (mention x)
operand_of (Constant width n) = item.constant (constant width n)

-- The text's right side for a netlist's.
abbrev pub right_of : Right → item.Right
right_of (Copy x) = item.copy (operand_of x)
right_of (One op x) = item.one op (operand_of x)
right_of (Two op x y) = item.two op (operand_of x) (operand_of y)
right_of (Choose c x y) = item.choose (operand_of c) (operand_of x) (operand_of y)
right_of (Concat xs) = item.concat (map operand_of xs)
right_of (Slice x hi lo) = item.slice (mention x) hi lo
right_of (Cell m index) = item.cell (mention m) (operand_of index)

-- Names with their shapes.
abbrev pub Entries : Type 0
Entries = List (Name × Shape)

-- The shapes of the inputs.
abbrev pub input_entries : Net → Entries
input_entries n = map (λ x. (x.name, input x.width)) n.inputs

-- The shapes of the registers.
abbrev pub register_entries : Net → Entries
register_entries n = map (λ x. (x.name, register x.width)) n.registers

-- The shapes of the wires.
abbrev pub wire_entries : Net → Entries
wire_entries n = map (λ x. (x.name, wire x.width)) n.wires

-- The shapes of the memories.
abbrev pub memory_entries : Net → Entries
memory_entries n = map (λ x. (x.name, memory x.width x.depth)) n.memories

-- All that a netlist has.
abbrev pub entities : Net → Entries
entities n = input_entries n ++ (register_entries n ++ (wire_entries n ++ memory_entries n))

-- The width of a found shape.
abbrev pub width_or_0 : Option Shape → ℕ
width_or_0 (Some shape) = shape_width shape
width_or_0 None = 0

-- The direction of a kind of port.
abbrev pub direction_of : PortKind → item.Direction
direction_of kind.Input = item.input
direction_of kind.Register = item.output_register
direction_of kind.Wire = item.output_wire

-- How a direction is written.
abbrev pub direction_text : PortKind → List ℕ
direction_text k = text_of (direction_pieces (direction_of k))

-- A port of the text.
abbrev pub port_of : PortKind → Name → ℕ → item.Port
port_of k x width = record { direction = direction_of k; range = number (width - 1); name = mention x }

-- The text's port for a netlist's.
abbrev pub printed_port : Net → Port → item.Port
printed_port n p = port_of p.kind p.name (width_or_0 (find (entities n) p.name))

-- The declaration of a name.
abbrev pub declared_items : Name → Option Shape → List item.Item
declared_items x (Some (wire width)) = item.wire (number (width - 1)) (mention x) ∷ []
declared_items x (Some (register width)) = item.register (number (width - 1)) (mention x) ∷ []
declared_items x (Some (memory width depth)) = item.memory (number (width - 1)) (mention x) (number (depth - 1)) ∷ []
declared_items x _ = []

-- The declarations of the names that aren't ports.
abbrev pub declarations_of : Net → List Name → List item.Item
declarations_of n xs = flat_map (λ x. declared_items x (find (entities n) x)) xs

-- The declaration of the integer, where there is a memory.
abbrev pub integer_of : List Memory → List item.Item
integer_of [] = []
integer_of (m ∷ ms) = item.integer 0 ∷ []

-- The assignment of a wire.
abbrev pub assign_of : Wire → item.Item
assign_of w = item.assign (mention w.name) (right_of w.right)

-- The start of a register.
abbrev pub initial_of : Register → item.Item
initial_of r = item.initial (mention r.name) (constant r.width r.start)

-- The start of a memory's cells.
abbrev pub initial_cells_of : Memory → item.Item
initial_cells_of m = item.initial_cells 0 (number m.depth) (mention m.name) (constant m.width m.start)

-- The clocked write of a register.
abbrev pub always_of : Register → item.Item
always_of r = item.always (mention r.name) (operand_of r.next)

-- The clocked write of a memory.
abbrev pub always_cell_of : Memory → item.Item
always_cell_of m = item.always_cell (operand_of m.enable) (mention m.name) (operand_of m.index) (operand_of m.value)

-- The items of a netlist's text.
abbrev pub items_of : Net → List item.Item
items_of n =
    declarations_of n (drop (length n.ports) n.names)
    ++ (integer_of n.memories
    ++ (map assign_of n.wires
    ++ (map initial_of n.registers ++ (map initial_cells_of n.memories
    ++ (map always_of n.registers ++ map always_cell_of n.memories)))))

-- The module of a netlist.
abbrev pub file_of : Net → item.File
file_of n = record { module_name = n.module_name; ports = map (printed_port n) n.ports; items = items_of n }
