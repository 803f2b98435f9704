use Rattle.std.proofs.Common.{arith}
use Rattle.sap_share.specs.Sets.{holds}
use Rattle.sap_trim.specs.Walked.{Folds, state_of}
use Rattle.sap_trim.proofs.Loops.{walked_more}
use Rattle.sap_trim.proofs.walk.Walk.fold_all.Goals as goal

pub loop-wire-preserved : goal.loop-wire-preserved
loop-wire-preserved c = record {
  orderly = c.in_ok-fold_wire.ensures.orderly;
  walked =
      walked_more (Folds (holds c.args.taken.now)) c.args.wires.now c.loop-wire.wire-index c.wire-item.result (state_of c.args.self.now) (state_of c.loop-wire.self)
      (state_of c.fold_wire.new.self) (omega arith) c.wire-item.is c.loop-wire.invariant.walked c.in_ok-fold_wire.ensures.folds;
}
