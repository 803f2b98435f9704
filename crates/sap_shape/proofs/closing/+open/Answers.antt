use Rattle.std.proofs.Common.{◌∙◌, arith}
use Rattle.sap_shape.proofs.Opens.{open_arms_step, open_step}
use Rattle.sap_shape.proofs.closing.+open.Goals as goal

pub open_list-loop-command-preserved : goal.open_list-loop-command-preserved
open_list-loop-command-preserved t c =
    open_step c.args.commands.now c.loop-command.command-index c.command-item.result _ _ (omega arith) c.command-item.is c.open_faults.ensures
    ∙ c.loop-command.invariant

pub open_arms-loop-arm-preserved : goal.open_arms-loop-arm-preserved
open_arms-loop-arm-preserved t c =
    open_arms_step c.args.arms.now c.loop-arm.arm-index c.arm-item.result _ _ _ (omega arith) c.arm-item.is c.as_slice.ensures.value c.open_list.ensures
    ∙ c.loop-arm.invariant
