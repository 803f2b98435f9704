use Rattle.std.proofs.Common.{arith}
use Rattle.sap_explain.proofs.LevelLines.{levels_end, levels_step}
use Rattle.sap_explain.proofs.level.push_levels.Goals as goal

pub loop-place-preserved : goal.loop-place-preserved
loop-place-preserved c = levels_step c.args.lattice.now c.loop-place.place _ _ _ (omega arith) c.in_ok-push_comment.ensures c.loop-place.invariant

pub returns : goal.returns
returns c = levels_end c.args.lattice.now c.loop-place.place _ _ (omega arith) c.loop-place.invariant
