use Rattle.std.proofs.Common.{arith}
use Rattle.sap_share.specs.Sets.{holds}
use Rattle.sap_trim.specs.Walked.{Settles, state_of}
use Rattle.sap_trim.proofs.Loops.{walked_more}
use Rattle.sap_trim.proofs.walk.Walk.settle_all.Goals as goal

pub loop-wire-preserved : goal.loop-wire-preserved
loop-wire-preserved c = record {
  orderly = c.in_ok-settle_wire.ensures.orderly;
  walked =
      walked_more (Settles (holds c.args.taken.now)) c.args.wires.now c.loop-wire.wire-index c.wire-item.result (state_of c.args.self.now) (state_of c.loop-wire.self)
      (state_of c.settle_wire.new.self) (omega arith) c.wire-item.is c.loop-wire.invariant.walked c.in_ok-settle_wire.ensures.settles;
}
