use Rattle.std.proofs.Common.{◌∙◌, arith}
use Rattle.sap_explain.proofs.GroupLines.{below_end, below_step}
use Rattle.sap_explain.proofs.group.+groups.Goals as goal

pub push_all_below-loop-one-preserved : goal.push_all_below-loop-one-preserved
push_all_below-loop-one-preserved t c =
    below_step c.args.part.now c.args.states.now c.loop-one.one-index c.one-item.result _ _ (omega arith) c.one-item.is c.in_ok-push_below.ensures ∙ c.loop-one.invariant

pub push_all_below-returns : goal.push_all_below-returns
push_all_below-returns t c = below_end c.args.part.now c.args.states.now c.loop-one.one-index _ _ (omega arith) c.loop-one.invariant
