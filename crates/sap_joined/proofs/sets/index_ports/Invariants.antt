use Rattle.std.proofs.Common.{◌≡◌, ◌++◌, drop}
use Rattle.sap_joined.specs.Joined as spec
use Rattle.sap_joined.proofs.sets.index_ports.Given as goal

abbrev pub invariant-loop-port : goal.invariant-loop-port
invariant-loop-port l = l.names.items ++ spec.port_names (drop l.port-index l.ports) ≡ spec.port_names l.ports
