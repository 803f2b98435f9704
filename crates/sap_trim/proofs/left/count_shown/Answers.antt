use Rattle.std.proofs.Common.{arith}
use Rattle.sap_net.specs.declared.parts.Wire.{Wire}
use Rattle.sap_share.specs.Sets.{holds}
use Rattle.sap_trim.proofs.Counts.{count_next}
use Rattle.sap_trim.proofs.left.count_shown.Goals as goal

pub loop-wire-preserved : goal.loop-wire-preserved
loop-wire-preserved c =
    let e = count_next (λ (w : Wire). holds c.args.shown.now w.name) c.args.wires.now c.loop-wire.wire-index c.wire-item.result (omega arith) c.wire-item.is in
    let s = c.shows-count.ensures in
    let i = c.loop-wire.invariant in
    record {
      same = omega (arith, e, s.same, i.same);
      most = omega (arith, s.most, i.most);
    }
