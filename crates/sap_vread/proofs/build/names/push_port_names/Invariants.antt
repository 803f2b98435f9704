use Rattle.std.proofs.Common.{◌≡◌, ◌++◌, map, take}
use Rattle.sap_vread.proofs.build.names.push_port_names.Given as goal

abbrev pub invariant-loop-port : goal.invariant-loop-port
invariant-loop-port l = l.names.items ≡ l.initial.names.items ++ map (λ p. p.name.name) (take l.port-index l.ports)
