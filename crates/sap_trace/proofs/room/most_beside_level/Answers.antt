use Rattle.std.proofs.Common.{arith}
use Rattle.sap_check.specs.Checked.{tree_in}
use Rattle.sap_trace.proofs.Rooms.{least_more, most_more}
use Rattle.sap_trace.proofs.room.most_beside_level.Goals as goal

pub loop-k-init : goal.loop-k-init
loop-k-init c = record { most = λ k from to. absurd (omega arith); least = λ other holds. omega arith }

pub loop-k-preserved : goal.loop-k-preserved
loop-k-preserved c =
    let d = tree_in c.args.checked.now in
    record {
      most = most_more d c.loop-k.k c.loop-k.most c.beside_level.result c.max-most.result c.loop-k.invariant.most c.beside_level.ensures c.max-most.ensures;
      least = least_more d c.loop-k.k c.loop-k.most c.beside_level.result c.max-most.result c.loop-k.invariant.least (omega arith) c.beside_level.ensures c.max-most.ensures;
    }
