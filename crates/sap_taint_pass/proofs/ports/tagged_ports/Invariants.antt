use Rattle.std.proofs.Common.{◌≡◌, ◌++◌, drop}
use Rattle.sap_taint.specs.TaggedForm as form
use Rattle.sap_taint_pass.proofs.ports.tagged_ports.Given as goal

abbrev pub invariant-loop-port : goal.invariant-loop-port
invariant-loop-port l = l.made.items ++ form.tagged_ports (drop l.port-index l.ports) ≡ form.tagged_ports l.ports
