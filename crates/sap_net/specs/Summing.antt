-- An example: a netlist with an input, two wires that are ports, a register that sums the input, and a memory whose
-- last cell takes the sum.
use Rattle.std.specs.Prelude.{List, [], ◌∷◌, codes}
use Rattle.sap_bits.specs.declared.Op2.TheVariants.{Add}
use Rattle.sap_maps.specs.Maps.{Name}
use Rattle.sap_net.specs.declared.parts.Operand.TheVariants.{Named, Constant}
use Rattle.sap_net.specs.declared.parts.Right.TheVariants.{Two, Cell}
use Rattle.sap_net.specs.declared.parts.PortKind.TheVariants as kind
use Rattle.sap_net.specs.declared.parts.Port.{Port}
use Rattle.sap_net.specs.declared.parts.Input.{Input}
use Rattle.sap_net.specs.declared.parts.Wire.{Wire}
use Rattle.sap_net.specs.declared.parts.Register.{Register}
use Rattle.sap_net.specs.declared.parts.Memory.{Memory}
use Rattle.sap_net.specs.Net.{Net}

-- The names of the summing net, in order.
abbrev pub summing_names : List Name
summing_names = codes "a" ∷ codes "b" ∷ codes "c" ∷ codes "d" ∷ codes "e" ∷ []

-- Its ports: an input, two wires and a register.
abbrev pub summing_ports : List Port
summing_ports =
    record { name = codes "a"; kind = kind.Input }
    ∷ record { name = codes "b"; kind = kind.Wire }
    ∷ record { name = codes "c"; kind = kind.Wire }
    ∷ record { name = codes "d"; kind = kind.Register }
    ∷ []

-- Its input of eight bits.
abbrev pub summing_inputs : List Input
summing_inputs = record { name = codes "a"; width = 8 } ∷ []

-- Its wires: a sum and a read of the memory.
abbrev pub summing_wires : List Wire
summing_wires =
    record { name = codes "b"; width = 8; right = Two Add (Named (codes "a")) (Named (codes "d")) }
    ∷ record { name = codes "c"; width = 8; right = Cell (codes "e") (Constant 2 3) }
    ∷ []

-- Its register, which takes the sum.
abbrev pub summing_registers : List Register
summing_registers = record { name = codes "d"; width = 8; start = 0; next = Named (codes "b") } ∷ []

-- Its memory, whose last cell takes the sum.
abbrev pub summing_memories : List Memory
summing_memories =
    record {
      name = codes "e";
      width = 8;
      depth = 4;
      start = 0;
      enable = Constant 1 1;
      index = Constant 2 3;
      value = Named (codes "b");
    }
    ∷ []

-- A small net that sums its input, with each kind of item.
abbrev pub summing : Net
summing =
    record {
      module_name = codes "top";
      names = summing_names;
      ports = summing_ports;
      inputs = summing_inputs;
      wires = summing_wires;
      registers = summing_registers;
      memories = summing_memories;
    }
