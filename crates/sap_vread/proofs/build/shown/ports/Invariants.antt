use Rattle.std.proofs.Common.{◌≡◌, map, take}
use Rattle.sap_vtext.specs.Modules as text
use Rattle.sap_vread.specs.Build.Narrow.{narrow_port}
use Rattle.sap_vparse.specs.Views.{port_of}
use Rattle.sap_vread.proofs.build.shown.ports.Given as goal

abbrev pub invariant-loop-port : goal.invariant-loop-port
invariant-loop-port l = l.shown.items ≡ map (λ p. text.net_port (narrow_port (port_of p))) (take l.port-index l.ports)
