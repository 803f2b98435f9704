use Rattle.std.proofs.Common.{◌∙◌, arith, ap, List}
use Rattle.sap_tree.specs.Trees.{commands_of}
use Rattle.sap_tree.specs.declared.syntax.Arm.{Arm}
use Rattle.sap_tree.specs.declared.syntax.Cmd.{Cmd}
use Rattle.sap_names.specs.Entities.{what_is}
use Rattle.sap_names.proofs.Commands.{try_noted, if_noted, then_noted, case_noted}
use Rattle.sap_names.proofs.Lists.{arms_step, commands_step}
use Rattle.sap_tree.proofs.Weights.{arm_list_weight, arms_lighter, commands_weight, else_lighter, last_lighter}
use Rattle.sap_names.proofs.command.+commands.Goals as goal

pub commands_faults-loop-command-preserved : goal.commands_faults-loop-command-preserved
commands_faults-loop-command-preserved t c =
    commands_step c.args.lattice.now.names (what_is c.args.names.now) c.args.commands.now c.loop-command.command-index c.command-item.result _ _ (omega arith)
    c.command-item.is c.command_faults.ensures ∙ c.loop-command.invariant

pub command_faults-else_faults-requires : goal.command_faults-else_faults-requires
command_faults-else_faults-requires t c =
    let lighter = else_lighter c.args.command.now c.in-If.field-0 c.in-If.condition c.in-If.one c.in-If.other c.in-If.is in (omega (arith, lighter), tt)

pub command_faults-returns-in-Try : goal.command_faults-returns-in-Try
command_faults-returns-in-Try t c =
    try_noted c.args.lattice.now.names (what_is c.args.names.now) _ c.in-Try.simple c.in-Try.field-1 c.in-Try.handler c.as_slice.result.now
    _ _ _ c.in-Try.is c.as_slice.ensures.value
    c.simple_faults-in-Try.ensures c.commands_faults.ensures

pub command_faults-returns-in-If : goal.command_faults-returns-in-If
command_faults-returns-in-If t c =
    if_noted c.args.lattice.now.names (what_is c.args.names.now) _ c.in-If.field-0 c.in-If.condition c.in-If.one c.in-If.other
    c.as_slice-in-If.result.now _ _ _ _ c.in-If.is c.as_slice-in-If.ensures.value
    c.expression_faults.ensures c.commands_faults-in-If.ensures c.else_faults.ensures

pub command_faults-returns-in-TryThen : goal.command_faults-returns-in-TryThen
command_faults-returns-in-TryThen t c =
    then_noted c.args.lattice.now.names (what_is c.args.names.now) _ c.in-TryThen.simple c.in-TryThen.field-1 c.in-TryThen.accepted
    c.in-TryThen.refused c.as_slice-in-TryThen.result.now
    c.as_slice-in-TryThen-2.result.now _ _ _ _ c.in-TryThen.is c.as_slice-in-TryThen.ensures.value c.as_slice-in-TryThen-2.ensures.value c.simple_faults-in-TryThen.ensures
    c.commands_faults-in-TryThen.ensures c.commands_faults-in-TryThen-2.ensures

pub command_faults-returns-in-Case : goal.command_faults-returns-in-Case
command_faults-returns-in-Case t c =
    case_noted c.args.lattice.now.names (what_is c.args.names.now) _ c.in-Case.field-0 c.in-Case.number c.in-Case.arms c.in-Case.last
    c.own.result c.as_slice-in-Case.result.now c.as_slice-in-Case-2.result.now _ _ _ _
    c.in-Case.is c.own.ensures c.as_slice-in-Case.ensures.value c.as_slice-in-Case-2.ensures.value c.expression_faults-in-Case.ensures
    c.arms_faults.ensures c.commands_faults-in-Case.ensures

pub command_faults-arms_faults-requires : goal.command_faults-arms_faults-requires
command_faults-arms_faults-requires t c =
    let lighter = arms_lighter c.args.command.now c.in-Case.field-0 c.in-Case.number c.in-Case.arms c.in-Case.last c.in-Case.is in
    let same = ap (λ (l : List Arm). arm_list_weight l) c.as_slice-in-Case.ensures.value in
    (omega (arith, lighter, same), tt)

pub command_faults-commands_faults-requires-in-Case : goal.command_faults-commands_faults-requires-in-Case
command_faults-commands_faults-requires-in-Case t c =
    let lighter = last_lighter c.args.command.now c.in-Case.field-0 c.in-Case.number c.in-Case.arms c.in-Case.last c.in-Case.is in
    let same = ap (λ (l : List Cmd). commands_weight (commands_of l)) c.as_slice-in-Case-2.ensures.value in
    (omega (arith, lighter, same), tt)

pub arms_faults-loop-arm-preserved : goal.arms_faults-loop-arm-preserved
arms_faults-loop-arm-preserved t c =
    arms_step c.args.lattice.now.names (what_is c.args.names.now) c.args.asked c.args.arms.now c.loop-arm.arm-index c.arm-item.result
    c.as_slice.result.now c.as_slice-in-loop-arm.result.now _ _ _ (omega arith)
    c.arm-item.is c.as_slice.ensures.value c.as_slice-in-loop-arm.ensures.value c.constants_faults.ensures c.commands_faults.ensures
    ∙ c.loop-arm.invariant
