-- The netlist of some wires, where each name of another netlist stands for an operand.
use Rattle.std.specs.Prelude.{List, ◌++◌, map, filter}
use Rattle.sap_net.specs.Names.{is_among}
use Rattle.sap_net.specs.Net.{Net}
use Rattle.sap_net.specs.declared.parts.Right.TheVariants.{Copy}
use Rattle.sap_net.specs.declared.parts.Wire.{Wire}
use Rattle.sap_net.specs.declared.parts.Register.{Register}
use Rattle.sap_net.specs.declared.parts.Memory.{Memory}
use Rattle.sap_net.specs.IsNetlist.{names_of}
use Rattle.sap_trim.specs.Names.{lasting_names, shown_wires}
use Rattle.sap_trim.specs.Replaced.{Stands, standing, standing_operand}

-- A shown wire, a copy of what stands for it.
abbrev pub wire_of : Stands → Wire → Wire
wire_of e w = record { name = w.name; width = w.width; right = Copy (standing e w.name) }

-- A register whose next operand is replaced by what stands for it.
abbrev pub register_of : Stands → Register → Register
register_of e r = record { name = r.name; width = r.width; start = r.start; next = standing_operand e r.next }

-- A memory whose write port's operands are replaced by what stands for them.
abbrev pub memory_of : Stands → Memory → Memory
memory_of e m =
    record {
      name = m.name;
      width = m.width;
      depth = m.depth;
      start = m.start;
      enable = standing_operand e m.enable;
      index = standing_operand e m.index;
      value = standing_operand e m.value;
    }

-- Helping wires, and then the port wires, each a copy of what it stands for.
abbrev pub built : Net → List Wire → Stands → Net
built n ws e =
    record {
      module_name = n.module_name;
      names = filter (λ x. is_among x (lasting_names n)) n.names ++ names_of ws;
      ports = n.ports;
      inputs = n.inputs;
      wires = ws ++ map (wire_of e) (shown_wires n);
      registers = map (register_of e) n.registers;
      memories = map (memory_of e) n.memories;
    }
