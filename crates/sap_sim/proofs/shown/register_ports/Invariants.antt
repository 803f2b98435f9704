use Rattle.std.proofs.Common.{◌≡◌, take}
use Rattle.sap_net.specs.Shown.{register_ports}
use Rattle.sap_sim.proofs.shown.register_ports.Given as goal

abbrev pub invariant-loop-port : goal.invariant-loop-port
invariant-loop-port l = l.names.items ≡ register_ports (take l.port-index l.ports)
