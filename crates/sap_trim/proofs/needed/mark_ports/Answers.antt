use Rattle.std.proofs.Common.{[], ◌∷◌, map, arith}
use Rattle.sap_trim.proofs.Marked.{marks_more, ports_push}
use Rattle.sap_trim.proofs.needed.mark_ports.Goals as goal

pub loop-port-preserved : goal.loop-port-preserved
loop-port-preserved c =
    marks_more (map (λ p. p.name)) (λ p. p.name ∷ []) ports_push c.args.places.now c.args.ports.now c.loop-port.port-index c.port-item.result
    _ _ _ (omega arith) c.port-item.is c.loop-port.invariant c.mark_name.ensures
