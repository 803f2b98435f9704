use Rattle.std.proofs.Common.{◌∙◌, arith}
use Rattle.sap_shape.specs.Lists.{written_in}
use Rattle.sap_shape.proofs.Groups.{paths_step}
use Rattle.sap_shape.proofs.states.+paths.Goals as goal

pub group_paths-loop-state-preserved : goal.group_paths-loop-state-preserved
group_paths-loop-state-preserved t c =
    paths_step (written_in c.args.entered.now) c.args.states.now c.loop-state.state-index c.state-item.result _ _ (omega arith) c.state-item.is
    c.in_ok-state_paths.ensures
    ∙ c.loop-state.invariant
