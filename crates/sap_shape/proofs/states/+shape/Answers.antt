use Rattle.std.proofs.Common.{◌∙◌, arith}
use Rattle.sap_shape.proofs.Groups.{shape_step}
use Rattle.sap_shape.proofs.states.+shape.Goals as goal

pub group_shape-loop-state-preserved : goal.group_shape-loop-state-preserved
group_shape-loop-state-preserved t c =
    shape_step c.args.names.now c.args.group.now c.args.above.now c.args.group.now c.loop-state.state-index c.state-item.result _ _ (omega arith) c.state-item.is
    c.in_ok-state_shape.ensures
    ∙ c.loop-state.invariant
