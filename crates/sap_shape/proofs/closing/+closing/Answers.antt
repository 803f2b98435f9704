use Rattle.std.proofs.Common.{ap, ◌∙◌, arith}
use Rattle.sap_tree.specs.Trees.{command_of}
use Rattle.sap_tree.proofs.Views.{command_of-if}
use Rattle.sap_names.proofs.Faults.{both}
use Rattle.sap_shape.proofs.Opens.{closing_arms_step, closing_last, closing_if}
use Rattle.sap_shape.proofs.closing.+closing.Goals as goal

pub closing_list-returns-in-len1-up : goal.closing_list-returns-in-len1-up
closing_list-returns-in-len1-up t c =
    both _ _ _ _ _ _ c.open_list.ensures c.last_faults.ensures
    (closing_last c.args.commands.now c.last-item.result c.args.after c.in-len1-up.len_at_least c.last-item.is)

pub last_faults-returns-in-If : goal.last_faults-returns-in-If
last_faults-returns-in-If t c =
    both _ _ _ _ _ _ c.closing_list.ensures c.closing_else.ensures
    (closing_if _ _ _ c.args.after c.in-If.one _ _ (ap command_of c.in-If.is ∙ command_of-if _ _ _ _) c.as_slice.ensures.value)

pub closing_arms-loop-arm-preserved : goal.closing_arms-loop-arm-preserved
closing_arms-loop-arm-preserved t c =
    closing_arms_step c.args.arms.now c.loop-arm.arm-index c.arm-item.result _ _ _ (omega arith) c.arm-item.is c.as_slice.ensures.value c.closing_list.ensures
    ∙ c.loop-arm.invariant
