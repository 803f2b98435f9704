use Rattle.sap_build.proofs.Written.{blank_is_netlist, helper_is_new, input_is_added, memory_is_added, register_is_added, shown_register_is_added, shown_wire_is_added, wire_is_added}
use Rattle.sap_build.proofs.laws.written_nets_are_netlists.Goals as goal

pub returns : goal.returns
returns c =
    record {
      blank = blank_is_netlist;
      helpers = helper_is_new;
      inputs = input_is_added;
      wires = wire_is_added;
      shown_wires = shown_wire_is_added;
      registers = register_is_added;
      shown_registers = shown_register_is_added;
      memories = memory_is_added;
    }
