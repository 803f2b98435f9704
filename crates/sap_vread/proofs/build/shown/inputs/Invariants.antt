use Rattle.std.proofs.Common.{◌≡◌, flat_map, take}
use Rattle.sap_vtext.specs.Modules as text
use Rattle.sap_vread.specs.Build.Narrow.{narrow_port}
use Rattle.sap_vparse.specs.Views.{port_of}
use Rattle.sap_vread.proofs.build.shown.inputs.Given as goal

abbrev pub invariant-loop-port : goal.invariant-loop-port
invariant-loop-port l = l.inputs.items ≡ flat_map (λ p. text.port_input (narrow_port (port_of p))) (take l.port-index l.ports)
