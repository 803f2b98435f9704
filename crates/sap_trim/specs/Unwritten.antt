-- Memories that nothing writes: their cells keep their start, so a read is that number.
use Rattle.std.specs.Prelude.{ℕ, List, [], ◌∷◌, map, bytes_eq, Option, Some, None, if◌then◌else◌}
use Rattle.sap_maps.specs.Maps.{Name}
use Rattle.sap_net.specs.Net.{Net}
use Rattle.sap_net.specs.declared.parts.Operand.TheVariants.{Constant}
use Rattle.sap_net.specs.declared.parts.Right.{Right}
use Rattle.sap_net.specs.declared.parts.Right.TheVariants.{Copy, Cell}
use Rattle.sap_net.specs.declared.parts.Memory.{Memory}
use Rattle.sap_net.specs.declared.parts.Wire.{Wire}
use Rattle.sap_fold.specs.Folding.{is_number}

-- The number of all cells of the memory of this name, if nothing writes it.
abbrev pub lasting_cell : List Memory → Name → Option ℕ
lasting_cell [] x = None
lasting_cell (m ∷ ms) x =
    if bytes_eq m.name x then (if is_number m.enable 0 then Some m.start else None) else lasting_cell ms x

-- A right side of this width, or a copy of the number, if there is one.
abbrev pub number_or : (width : ℕ) → Right → Option ℕ → Right
number_or u r None = r
number_or u r (Some k) = Copy (Constant u k)

-- A read of a memory that nothing writes is its number.
abbrev pub read_right : List Memory → (width : ℕ) → Right → Right
read_right ms u (Cell m i) = number_or u (Cell m i) (lasting_cell ms m)
read_right ms u r = r

-- The same of a wire's right side.
abbrev pub read_wire : List Memory → Wire → Wire
read_wire ms w = record { name = w.name; width = w.width; right = read_right ms w.width w.right }

-- The same of all wires of a netlist.
abbrev pub read_net : Net → Net
read_net n =
    record {
      module_name = n.module_name;
      names = n.names;
      ports = n.ports;
      inputs = n.inputs;
      wires = map (read_wire n.memories) n.wires;
      registers = n.registers;
      memories = n.memories;
    }
