use Rattle.std.proofs.Common.{◌∙◌, arith}
use Rattle.sap_show.proofs.Texts.{states_step, group_end}
use Rattle.sap_show.proofs.state.+states.Goals as goal

pub states-loop-one-preserved : goal.states-loop-one-preserved
states-loop-one-preserved t c =
    states_step c.args.margin.now c.args.list.now c.loop-one.one-index c.one-item.result _ _ (omega arith) c.one-item.is c.in_ok-state.ensures ∙ c.loop-one.invariant

pub states-returns : goal.states-returns
states-returns t c = group_end c.args.margin.now c.args.list.now c.loop-one.one-index _ _ (omega arith) c.loop-one.invariant
