-- A netlist as contracts see it.
use Rattle.std.specs.Prelude.{List}
use Rattle.sap_maps.specs.Maps.{Name}
use Rattle.sap_net.specs.declared.parts.Port.{Port}
use Rattle.sap_net.specs.declared.parts.Input.{Input}
use Rattle.sap_net.specs.declared.parts.Wire.{Wire}
use Rattle.sap_net.specs.declared.parts.Register.{Register}
use Rattle.sap_net.specs.declared.parts.Memory.{Memory}
use Rattle.sap_net.specs.declared.parts.Parts.{Parts}

-- A netlist is a module's name and all that the module declares. `names` are all declared names but the clock's, in the
-- order of declaration. `ports` and `inputs` are in port order, without the clock, and `wires` in the order of their
-- assigns. `registers` and `memories` are in the order of declaration.
pub record Net : Type 0 where
  pub module_name : Name
  pub names : List Name
  pub ports : List Port
  pub inputs : List Input
  pub wires : List Wire
  pub registers : List Register
  pub memories : List Memory

-- The netlist of its parts.
abbrev pub net_of : Parts → Net
net_of p =
    record {
      module_name = p.module_name;
      names = p.names.items;
      ports = p.ports.items;
      inputs = p.inputs.items;
      wires = p.wires.items;
      registers = p.registers.items;
      memories = p.memories.items;
    }
