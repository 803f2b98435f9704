use Rattle.std.proofs.Common.{take, map}
use Rattle.sap_trim.specs.Needed.{Marks}
use Rattle.sap_trim.proofs.needed.mark_ports.Given as goal

abbrev pub invariant-loop-port : goal.invariant-loop-port
invariant-loop-port l = Marks l.places (map (λ p. p.name) (take l.port-index l.ports)) l.fn.marks l.marks
