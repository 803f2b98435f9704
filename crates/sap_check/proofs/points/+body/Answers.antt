use Rattle.std.proofs.Common.{◌∙◌, ap, arith}
use Rattle.sap_tree.specs.Trees.{command_of}
use Rattle.sap_tree.proofs.Views.{command_of-if, command_of-try_then, command_of-case}
use Rattle.sap_check.proofs.PointLists.{arms_end, arms_step, case_points, if_points, list_end, points_step, then_points}
use Rattle.sap_check.proofs.points.+body.Goals as goal

pub add_list-loop-command-preserved : goal.add_list-loop-command-preserved
add_list-loop-command-preserved t c =
    points_step c.args.commands.now c.loop-command.command-index c.command-item.result _ _ (omega arith) c.command-item.is
    c.in_ok-add_command.ensures
    ∙ c.loop-command.invariant

pub add_list-returns : goal.add_list-returns
add_list-returns t c = list_end c.args.commands.now c.loop-command.command-index _ _ (omega arith) c.loop-command.invariant

pub add_command-returns-in_ok-add_else-in-If : goal.add_command-returns-in_ok-add_else-in-If
add_command-returns-in_ok-add_else-in-If t c =
    if_points _ _ _ c.in-If.one _ _ _ _ _ _ (ap command_of c.in-If.is ∙ command_of-if _ _ _ _) c.as_slice.ensures.value c.in_ok-add_point-in-If.ensures
    c.in_ok-add_list-in-If.ensures c.in_ok-add_else-in-If.ensures

pub add_command-returns-in_ok-add_list-in-TryThen-2 : goal.add_command-returns-in_ok-add_list-in-TryThen-2
add_command-returns-in_ok-add_list-in-TryThen-2 t c =
    then_points _ _ _ c.in-TryThen.accepted c.in-TryThen.refused _ _ _ _ _ _ _ (ap command_of c.in-TryThen.is
    ∙ command_of-try_then _ _ _ _) c.as_slice-in-TryThen.ensures.value c.as_slice-in-TryThen-2.ensures.value
    c.in_ok-add_simple-in-TryThen.ensures c.in_ok-add_point-in-TryThen.ensures c.in_ok-add_list-in-TryThen.ensures c.in_ok-add_list-in-TryThen-2.ensures

pub add_command-returns-in_ok-add_list-in-Case : goal.add_command-returns-in_ok-add_list-in-Case
add_command-returns-in_ok-add_list-in-Case t c =
    case_points _ _ _ c.in-Case.arms.items c.in-Case.last _ _ _ _ _ _ (ap command_of c.in-Case.is
    ∙ command_of-case _ _ _ _) c.as_slice-in-Case.ensures.value c.as_slice-in-Case-2.ensures.value
    c.in_ok-add_point-in-Case.ensures c.in_ok-add_arms-in-Case.ensures c.in_ok-add_list-in-Case.ensures

pub add_arms-loop-arm-preserved : goal.add_arms-loop-arm-preserved
add_arms-loop-arm-preserved t c =
    arms_step c.args.arms.now c.loop-arm.arm-index c.arm-item.result _ _ _ (omega arith) c.arm-item.is c.as_slice.ensures.value c.in_ok-add_list.ensures
    ∙ c.loop-arm.invariant

pub add_arms-returns : goal.add_arms-returns
add_arms-returns t c = arms_end c.args.arms.now c.loop-arm.arm-index _ _ (omega arith) c.loop-arm.invariant
