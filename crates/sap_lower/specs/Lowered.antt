-- The netlist of a flat program.
use Rattle.std.specs.Prelude.{ℕ, zero, suc, ◌^◌, ◌==◌, Bool, not, List, [], ◌∷◌, ◌++◌, map, filter, Option, Some, None, codes, if◌then◌else◌}
use Rattle.sap_maps.specs.Maps.{Name}
use Rattle.sap_maps.specs.Scope.{find}
use Rattle.sap_net.specs.Names.{is_among}
use Rattle.sap_net.specs.Net.{Net}
use Rattle.sap_net.specs.declared.parts.Operand.TheVariants.{Named, Constant}
use Rattle.sap_net.specs.declared.parts.Right.TheVariants.{Copy}
use Rattle.sap_net.specs.declared.parts.PortKind.{PortKind}
use Rattle.sap_net.specs.declared.parts.PortKind.TheVariants as kind
use Rattle.sap_net.specs.declared.parts.Port.{Port}
use Rattle.sap_net.specs.declared.parts.Input.{Input}
use Rattle.sap_net.specs.declared.parts.Wire.{Wire}
use Rattle.sap_net.specs.declared.parts.Register.{Register}
use Rattle.sap_net.specs.declared.parts.Memory.{Memory}
use Rattle.sap_net.specs.IsNetlist.{names_of}
use Rattle.sap_ir.specs.declared.guarded.Var.{Var}
use Rattle.sap_ir.specs.declared.guarded.MemoryVariable.{MemoryVariable}
use Rattle.sap_ir.specs.Source.{Action, set, put, Command, Source, shapes}
use Rattle.sap_ir.specs.IsGuarded.{variable_names, memory_names}
use Rattle.sap_lower.specs.declared.lowering.Lowering.{Lowering}
use Rattle.sap_lower.specs.declared.parts.Part.{Part}
use Rattle.sap_lower.specs.declared.parts.WritePort.{WritePort}
use Rattle.sap_lower.specs.Lowering.{present}
use Rattle.sap_lower.specs.Commands.{port_of, low_commands}

-- Inputs and registers stand for themselves at first, a register that nothing assigns for its start, wires for 0.

-- A name that stands for itself.
abbrev pub named_entry : Var → Name × Part
named_entry x = (x.name, record { operand = Named x.name; width = x.width })

-- A name that stands for 0.
abbrev pub zero_entry : Var → Name × Part
zero_entry x = (x.name, record { operand = Constant x.width 0; width = x.width })

-- The name that an action assigns, in front of others.
abbrev pub with_target : Action → List Name → List Name
with_target (set x a) xs = x ∷ xs
with_target (put m i a) xs = xs

-- The names that some commands assign, in order.
abbrev pub targets : List Command → List Name
targets [] = []
targets (c ∷ cs) = with_target c.act (targets cs)

-- A register's operand at first, where these names are assigned.
abbrev pub register_part : (assigned : List Name) → Var → Part
register_part xs r =
    let operand = if is_among r.name xs then Named r.name else Constant r.width r.start in
    record { operand = operand; width = r.width }

-- That operand, under the register's name.
abbrev pub register_entry : (assigned : List Name) → Var → Name × Part
register_entry xs r = (r.name, register_part xs r)

-- What each name stands for at first.
abbrev pub first_entries : Source → List (Name × Part)
first_entries s =
    map named_entry s.inputs ++ map (register_entry (targets s.commands)) s.registers ++ map zero_entry s.wires

-- The bits of an index, where the depth is a power of two up to 2 ^ most.
abbrev pub bits_within : (most depth : ℕ) → ℕ
bits_within zero d = zero
bits_within (suc k) d = if d == 2 ^ suc k then suc k else bits_within k d

-- The width of the index of a depth.
abbrev pub index_bits : (depth : ℕ) → ℕ
index_bits d = bits_within 12 d

-- The write port of a memory that nothing has written yet.
abbrev pub first_port : MemoryVariable → Name × WritePort
first_port m = (
  m.name,
  record {
    width = m.width;
    bits = index_bits m.depth;
    enable = Constant 1 0;
    index = Constant (index_bits m.depth) 0;
    value = Constant m.width 0;
  },
)

-- What stands before the first command.
abbrev pub first_lowering : Source → Lowering
first_lowering s = record { wires = []; entries = first_entries s; ports = map first_port s.memories }

-- What stands after the last command.
abbrev pub last_lowering : Source → Lowering
last_lowering s = low_commands (shapes s) (first_lowering s) s.commands

-- A copy of what a wire stands for at the end.
abbrev pub out_wire : List (Name × Part) → Var → Wire
out_wire es x = record { name = x.name; width = x.width; right = Copy (present es x.name).operand }

-- The register of a name, with what stands for it in the end as its next operand.
abbrev pub register_of : List (Name × Part) → Var → Register
register_of es x = record { name = x.name; width = x.width; start = x.start; next = (present es x.name).operand }

-- The memory of a name, with its write port in the end.
abbrev pub memory_of : List (Name × WritePort) → MemoryVariable → Memory
memory_of ps m =
    let p = port_of ps m.name in
    record {
      name = m.name;
      width = m.width;
      depth = m.depth;
      start = m.start;
      enable = p.enable;
      index = p.index;
      value = p.value;
    }

-- The input of a name.
abbrev pub input_of : Var → Input
input_of x = record { name = x.name; width = x.width }

-- Registers that are ports are declared first, in port order.

-- The thing in front of a list, where it is there.
abbrev pub in_front : {X : Type 0} → Option X → List X → List X
in_front None xs = xs
in_front (Some x) xs = x ∷ xs

-- The registers with these names, in the order of the names.
abbrev pub picked : List Var → List Name → List Var
picked rs [] = []
picked rs (p ∷ ps) = in_front (find (map (λ r. (r.name, r)) rs) p) (picked rs ps)

-- The variables that aren't listed.
abbrev pub unlisted : List Name → List Var → List Var
unlisted ps xs = filter (λ x. not (is_among x.name ps)) xs

-- The variables that are ports.
abbrev pub listed : List Name → List Var → List Var
listed ps xs = filter (λ x. is_among x.name ps) xs

-- The registers in the order of their declaration: ports first.
abbrev pub registers_declared : Source → List Var
registers_declared s = picked s.registers s.ports ++ unlisted s.ports s.registers

-- The port of an input.
abbrev pub input_port : Var → Port
input_port x = record { name = x.name; kind = kind.Input }

-- The kind of a port that shows a register or a wire.
abbrev pub kind_shown : (is_register : Bool) → PortKind
kind_shown b = if b then kind.Register else kind.Wire

-- A port of one of these registers, or else of a wire.
abbrev pub port_among : (registers : List Name) → Name → Port
port_among rs p = record { name = p; kind = kind_shown (is_among p rs) }

-- The port of a name.
abbrev pub port_shown : List Var → Name → Port
port_shown rs p = port_among (variable_names rs) p

-- The wires of the netlist: those of the commands, then those that ports show.
abbrev pub all_wires : Source → List Wire
all_wires s = let t = last_lowering s in t.wires ++ map (out_wire t.entries) (listed s.ports s.wires)

-- What no port declares.
abbrev pub unported : List Name → List Name → List Name
unported ps xs = filter (λ x. not (is_among x ps)) xs

-- The declared names: inputs, ports, then the others.
abbrev pub names_declared : Source → List Wire → List Name
names_declared s ws =
    variable_names s.inputs ++ (s.ports ++ (unported s.ports (names_of ws)
    ++ (unported s.ports (variable_names s.registers) ++ memory_names s.memories)))

-- The netlist of these wires, where each name and each memory stands for these operands at the end.
abbrev pub net_declared : Source → List Wire → List (Name × Part) → List (Name × WritePort) → Net
net_declared s ws es ps =
    record {
      module_name = codes "top";
      names = names_declared s ws;
      ports = map input_port s.inputs ++ map (port_shown s.registers) s.ports;
      inputs = map input_of s.inputs;
      wires = ws;
      registers = map (register_of es) (registers_declared s);
      memories = map (memory_of ps) s.memories;
    }

-- The netlist of a list of guarded commands.
abbrev pub lowered : Source → Net
lowered s = net_declared s (all_wires s) (last_lowering s).entries (last_lowering s).ports
