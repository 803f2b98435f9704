-- The module that a text is.
use Rattle.std.specs.Prelude.{◌≡◌, ℕ, ◌+◌, List, [], ◌∷◌, Option, Some, None, if◌then◌else◌, map, flat_map, unwrap_or}
use Rattle.std.specs.Str.{bytes_eq}
use Rattle.sap_maps.specs.Maps.{Name}
use Rattle.sap_net.specs.declared.parts.Operand.{Operand}
use Rattle.sap_net.specs.declared.parts.Operand.TheVariants.{Named, Constant}
use Rattle.sap_net.specs.declared.parts.Right.{Right}
use Rattle.sap_net.specs.declared.parts.Right.TheVariants.{Copy, One, Two, Choose, Concat, Slice, Cell}
use Rattle.sap_net.specs.declared.parts.PortKind.{PortKind}
use Rattle.sap_net.specs.declared.parts.PortKind.TheVariants as kind
use Rattle.sap_net.specs.declared.parts.Port.{Port}
use Rattle.sap_net.specs.declared.parts.Input.{Input}
use Rattle.sap_net.specs.declared.parts.Wire.{Wire}
use Rattle.sap_net.specs.declared.parts.Register.{Register}
use Rattle.sap_net.specs.declared.parts.Memory.{Memory}
use Rattle.sap_net.specs.Net.{Net}
use Rattle.sap_vtext.specs.Tokens.{Token}
use Rattle.sap_vtext.specs.Lexing.{Lexed}
use Rattle.sap_vtext.specs.Items.{File}
use Rattle.sap_vtext.specs.Items as item
use Rattle.sap_vtext.specs.Grammar.{IsFile}
use Rattle.sap_vtext.specs.Names.{Shape, register, memory, Declaration, declarations, shape_in}
use Rattle.sap_vtext.specs.Widths.{shape_width}
use Rattle.sap_vtext.specs.Faults.{IsFaultless}

-- The netlist of a file. Where no fault stands, all that is looked up here is there.

-- The netlist's operand for an operand.
abbrev pub net_operand : item.Operand → Operand
net_operand (item.named x) = Named x.name
net_operand (item.constant c) = Constant c.width c.value

-- The netlist's right side for a right side.
abbrev pub net_right : item.Right → Right
net_right (item.copy x) = Copy (net_operand x)
net_right (item.one op x) = One op (net_operand x)
net_right (item.two op x y) = Two op (net_operand x) (net_operand y)
net_right (item.choose c x y) = Choose (net_operand c) (net_operand x) (net_operand y)
net_right (item.concat xs) = Concat (map net_operand xs)
net_right (item.slice x high low) = Slice x.name high low
net_right (item.cell m index) = Cell m.name (net_operand index)

-- The netlist's kind of a port.
abbrev pub net_kind : item.Direction → PortKind
net_kind item.input = kind.Input
net_kind item.output_register = kind.Register
net_kind item.output_wire = kind.Wire

-- The netlist's port for a port.
abbrev pub net_port : item.Port → Port
net_port p = record { name = p.name.name; kind = net_kind p.direction }

-- The input of a port, if its direction is that of an input.
abbrev pub net_input : item.Direction → Name → ℕ → List Input
net_input item.input x width = record { name = x; width = width } ∷ []
net_input _ x width = []

-- The input that a port declares.
abbrev pub port_input : item.Port → List Input
port_input p = net_input p.direction p.name.name (p.range.value + 1)

-- The width of a declared shape; 0 where nothing is declared.
abbrev pub declared_width : Option Shape → ℕ
declared_width (Some shape) = shape_width shape
declared_width None = 0

-- The wire that an item assigns, with its declared width, if the item is an `assign`.
abbrev pub net_wires : List Declaration → item.Item → List Wire
net_wires ds (item.assign x right) = record {
  name = x.name;
  width = declared_width (shape_in ds x.name);
  right = net_right right;
} ∷ []
net_wires ds _ = []

-- The first of two that is there.
abbrev pub first_of : {A : Type 0} → Option A → Option A → Option A
first_of (Some a) later = Some a
first_of None later = later

-- `first_given` is what `f` gives for the first item for which it gives something.
abbrev pub first_given : {A : Type 0} → (item.Item → Option A) → List item.Item → Option A
first_given f [] = None
first_given f (x ∷ xs) = first_of (f x) (first_given f xs)

-- `a`, if the two names are equal.
abbrev pub when : {A : Type 0} → List ℕ → Name → A → Option A
when x n a = if bytes_eq x n then Some a else None

-- The start that an item gives a name.
abbrev pub initial_number : Name → item.Item → Option ℕ
initial_number n (item.initial x value) = when x.name n value.value
initial_number n (item.initial_cells place bound x value) = when x.name n value.value
initial_number n _ = None

-- The next operand that an item gives a register.
abbrev pub next_operand : Name → item.Item → Option Operand
next_operand n (item.always x next) = when x.name n (net_operand next)
next_operand n _ = None

-- An `always` of a memory writes by a condition, an index and a value.
pub record Write : Type 0 where
  pub enable : Operand
  pub index : Operand
  pub value : Operand

-- The write that an item makes to a memory.
abbrev pub cell_write : Name → item.Item → Option Write
cell_write n (item.always_cell condition x index value) =
    when x.name n (record { enable = net_operand condition; index = net_operand index; value = net_operand value })
cell_write n _ = None

-- An operand where none is given.
abbrev pub nothing : Operand
nothing = Constant 0 0

-- The register of a name, with the start and the next operand that the items give it.
abbrev pub net_register : Name → ℕ → List item.Item → Register
net_register n width xs =
    record {
      name = n;
      width = width;
      start = unwrap_or (first_given (initial_number n) xs) 0;
      next = unwrap_or (first_given (next_operand n) xs) nothing;
    }

-- A memory with its write port.
abbrev pub written_memory : Name → ℕ → ℕ → ℕ → Write → Memory
written_memory n width depth start w =
    record {
      name = n;
      width = width;
      depth = depth;
      start = start;
      enable = w.enable;
      index = w.index;
      value = w.value;
    }

-- The memory of a name, with the start and the write that the items give it.
abbrev pub net_memory : Name → ℕ → ℕ → List item.Item → Memory
net_memory n width depth xs =
    written_memory n width depth (unwrap_or (first_given (initial_number n) xs) 0)
    (unwrap_or (first_given (cell_write n) xs) (record { enable = nothing; index = nothing; value = nothing }))

-- The register of a name that is declared as one.
abbrev pub shape_registers : Name → Shape → List item.Item → List Register
shape_registers n (register width) xs = net_register n width xs ∷ []
shape_registers n _ xs = []

-- The memory of a name that is declared as one.
abbrev pub shape_memories : Name → Shape → List item.Item → List Memory
shape_memories n (memory width depth) xs = net_memory n width depth xs ∷ []
shape_memories n _ xs = []

-- The netlist of a module.
abbrev pub netlist_of : File → Net
netlist_of f =
    let ds = declarations f.ports f.items in
    record {
      module_name = f.module_name;
      names = map (λ d. d.name.name) ds;
      ports = map net_port f.ports;
      inputs = flat_map port_input f.ports;
      wires = flat_map (net_wires ds) f.items;
      registers = flat_map (λ d. shape_registers d.name.name d.shape f.items) ds;
      memories = flat_map (λ d. shape_memories d.name.name d.shape f.items) ds;
    }

-- The text is a module: the bytes are tokens, the tokens are a file, and none of the faults V1 to V7 applies. The
-- netlist is that of the file.
pub record IsModule (bytes : List ℕ) (net : Net) : Type 0 where
  pub tokens : List Token
  pub lexed : Lexed 0 bytes tokens
  pub file : File
  pub spelled : IsFile tokens file []
  pub faultless : IsFaultless file
  pub netlist : netlist_of file ≡ net

-- A text is at most one module.
abbrev pub OneModule : Type 0
OneModule = (bytes : List ℕ) (m n : Net) → IsModule bytes m → IsModule bytes n → m ≡ n
