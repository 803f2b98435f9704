use Rattle.std.proofs.Common.{◌≡◌, take}
use Rattle.sap_wave.specs.Runs.{initial_of, variables_among}
use Rattle.sap_wave.proofs.registers.shown_by_ports.Given as goal

abbrev pub invariant-loop-port : goal.invariant-loop-port
invariant-loop-port l = record {
  variables : l.shown.variables.items ≡ variables_among l.netlist (take l.port-index l.netlist.ports);
  first : l.shown.first.items ≡ initial_of l.netlist (variables_among l.netlist (take l.port-index l.netlist.ports));
}
