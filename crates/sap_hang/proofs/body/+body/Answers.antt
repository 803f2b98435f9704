use Rattle.sap_lemmas.proofs.Common.{◌-◌, ◌∙◌, ap, sym, arith, List, on_ok_weaker}
use Rattle.sap_tree.specs.Prelude.{block_of, command_of, commands_of, else_of, last_arm}
use Rattle.sap_tree.specs.declared.syntax.Arm.{Arm}
use Rattle.sap_tree.specs.declared.syntax.Cmd.{Cmd}
use Rattle.sap_tree.proofs.Weights.{arms_weight-in, arms_weight-of, commands_weight}
use Rattle.sap_tree.proofs.Views.{command_of-do, command_of-if, command_of-try, command_of-try_then, command_of-case}
use Rattle.sap_hang.proofs.Bodies.{on_ok_both, list_start, list_step, arms_start, arms_step, else_some, else_none, do_walked, try_walked, if_walked, then_walked, case_walked}
use Rattle.sap_hang.proofs.body.+body.Goals as goal

pub add_command-returns-in_ok-add_simple-in-Do : goal.add_command-returns-in_ok-add_simple-in-Do
add_command-returns-in_ok-add_simple-in-Do t c =
    on_ok_weaker c.add_fall.result
    (λ f. do_walked c.args.standing.now (command_of c.args.command.now) _ c.args.rows.now.items c.add_fall.new.rows.items
    c.args.assigned.now c.args.touched.now c.add_simple.new.assigned c.add_simple.new.touched
    (ap command_of c.in-Do.is ∙ command_of-do _) c.in_ok-add_simple-in-Do.ensures.assigned c.in_ok-add_simple-in-Do.ensures.touched f)
    c.add_fall.ensures

pub add_command-returns-in_ok-add_point-in-Try : goal.add_command-returns-in_ok-add_point-in-Try
add_command-returns-in_ok-add_point-in-Try t c =
    on_ok_weaker c.add_fall-in-Try.result
    (λ f. try_walked c.args.standing.now (command_of c.args.command.now) _ _ c.in-Try.handler c.as_slice.result.now
    c.args.rows.now.items c.add_list.new.rows.items c.add_point.new.rows.items c.add_fall-in-Try.new.rows.items
    c.args.assigned.now c.add_list.new.assigned c.add_simple-in-Try.new.assigned c.new-here.result c.add_list.new.touched
    c.add_simple-in-Try.new.touched c.args.touched.now c.add_point.new.touched
    (ap command_of c.in-Try.is ∙ command_of-try _ _ _) c.as_slice.ensures.value c.new-here.ensures c.in_ok-add_list-in-Try.ensures
    c.in_ok-add_simple-in-Try.ensures.assigned c.in_ok-add_simple-in-Try.ensures.touched c.in_ok-add_point-in-Try.ensures.row c.in_ok-add_point-in-Try.ensures.touched f)
    c.add_fall-in-Try.ensures

pub add_command-returns-in_ok-add_list-in-If : goal.add_command-returns-in_ok-add_list-in-If
add_command-returns-in_ok-add_list-in-If t c =
    on_ok_both c.add_point-in-If.result
    (λ r m. if_walked c.args.standing.now (command_of c.args.command.now) _ _ c.in-If.one c.as_slice-in-If.result.now (else_of c.in-If.other)
    c.args.rows.now.items c.add_else.new.rows.items c.add_list-in-If.new.rows.items c.add_point-in-If.new.rows.items
    c.args.assigned.now c.add_else.new.assigned c.add_list-in-If.new.assigned c.new-here-in-If.result c.add_else.new.touched
    c.add_list-in-If.new.touched c.args.touched.now c.add_point-in-If.new.touched
    (ap command_of c.in-If.is ∙ command_of-if _ _ _ _) c.as_slice-in-If.ensures.value c.new-here-in-If.ensures c.in_ok-add_else-in-If.ensures c.in_ok-add_list-in-If.ensures r m)
    c.add_point-in-If.ensures.row c.add_point-in-If.ensures.touched

pub add_command-returns-in_ok-add_point-in-TryThen : goal.add_command-returns-in_ok-add_point-in-TryThen
add_command-returns-in_ok-add_point-in-TryThen t c =
    on_ok_weaker c.add_fall-in-TryThen.result
    (λ f. then_walked c.args.standing.now (command_of c.args.command.now) _ _ c.in-TryThen.accepted c.in-TryThen.refused
    c.as_slice-in-TryThen-2.result.now c.as_slice-in-TryThen.result.now
    c.args.rows.now.items c.add_list-in-TryThen.new.rows.items c.add_list-in-TryThen-2.new.rows.items c.add_point-in-TryThen.new.rows.items c.add_fall-in-TryThen.new.rows.items
    c.args.assigned.now c.add_list-in-TryThen.new.assigned c.add_list-in-TryThen-2.new.assigned c.add_simple-in-TryThen.new.assigned
    c.new-here-in-TryThen.result c.add_list-in-TryThen.new.touched c.add_list-in-TryThen-2.new.touched c.add_simple-in-TryThen.new.touched
    c.args.touched.now c.add_point-in-TryThen.new.touched
    (ap command_of c.in-TryThen.is ∙ command_of-try_then _ _ _ _) c.as_slice-in-TryThen-2.ensures.value c.as_slice-in-TryThen.ensures.value c.new-here-in-TryThen.ensures
    c.in_ok-add_list-in-TryThen.ensures c.in_ok-add_list-in-TryThen-2.ensures c.in_ok-add_simple-in-TryThen.ensures.assigned c.in_ok-add_simple-in-TryThen.ensures.touched
    c.in_ok-add_point-in-TryThen.ensures.row c.in_ok-add_point-in-TryThen.ensures.touched f)
    c.add_fall-in-TryThen.ensures

pub add_command-returns-in_ok-add_arms-in-Case : goal.add_command-returns-in_ok-add_arms-in-Case
add_command-returns-in_ok-add_arms-in-Case t c =
    on_ok_both c.add_point-in-Case.result
    (λ r m. case_walked c.args.standing.now (command_of c.args.command.now) _ _ c.in-Case.arms.items c.as_slice-in-Case.result.now c.in-Case.last
    c.args.rows.now.items c.add_arms.new.rows.items c.add_point-in-Case.new.rows.items
    c.args.assigned.now c.add_arms.new.assigned c.new-here-in-Case.result c.add_arms.new.touched c.args.touched.now c.add_point-in-Case.new.touched
    (ap command_of c.in-Case.is ∙ command_of-case _ _ _ _) c.as_slice-in-Case.ensures.value c.new-here-in-Case.ensures c.in_ok-add_arms-in-Case.ensures r m)
    c.add_point-in-Case.ensures.row c.add_point-in-Case.ensures.touched

pub add_list-loop-at-init : goal.add_list-loop-at-init
add_list-loop-at-init t c =
    list_start c.args.standing.now c.args.commands.now _ c.args.rows.now.items c.args.assigned.now c.args.touched.now (omega arith)

pub add_list-loop-at-preserved : goal.add_list-loop-at-preserved
add_list-loop-at-preserved t c =
    list_step c.args.standing.now c.args.commands.now _ c.loop-at.at c.index-commands-at.result _ _ _ _ _ _ _ _ _ (omega arith)
    (omega arith) c.index-commands-at.is c.loop-at.invariant c.in_ok-add_command.ensures

pub add_arms-loop-at-init : goal.add_arms-loop-at-init
add_arms-loop-at-init t c =
    arms_start c.args.standing.now c.args.arms.now c.args.last.now c.as_slice.result.now _ _ _ _ _ _ _ (omega arith) c.as_slice.ensures.value c.in_ok-add_list.ensures

pub add_arms-loop-at-preserved : goal.add_arms-loop-at-preserved
add_arms-loop-at-preserved t c =
    arms_step c.args.standing.now c.args.arms.now c.args.last.now _ c.loop-at.at c.index-arms-at.result c.as_slice-commands.result.now
    _ _ _ _ _ _ _ _ _ (omega arith) (omega arith) c.index-arms-at.is
    (c.as_slice-commands.ensures.value ∙ ap (λ (a : Arm). a.block.commands.items) (sym c.index-arms-at.is)) c.loop-at.invariant c.in_ok-add_list-2.ensures

pub add_else-returns-in-Some : goal.add_else-returns-in-Some
add_else-returns-in-Some t c =
    on_ok_weaker c.add_list.result
    (λ w. else_some c.args.standing.now c.in-Some.block (else_of c.args.other.now) c.as_slice.result.now
    _ _ _ _ _ _ (ap else_of c.in-Some.is) c.as_slice.ensures.value w) c.add_list.ensures

pub add_else-returns-in-None : goal.add_else-returns-in-None
add_else-returns-in-None t c = else_none c.args.standing.now (else_of c.args.other.now) _ _ _ (ap else_of c.in-None.is)

pub add_arms-add_list-requires : goal.add_arms-add_list-requires
add_arms-add_list-requires t c =
    let whole = arms_weight-of c.args.arms.now (last_arm (block_of c.args.last.now)) in
    let same = ap (λ (l : List Cmd). commands_weight (commands_of l)) c.as_slice.ensures.value in
    (omega (arith, whole, same), c.requires)

pub add_arms-add_list-requires-in-loop-at : goal.add_arms-add_list-requires-in-loop-at
add_arms-add_list-requires-in-loop-at t c =
    let whole = arms_weight-of c.args.arms.now (last_arm (block_of c.args.last.now)) in
    let inside = arms_weight-in c.args.arms.now (c.loop-at.at - 1) c.index-arms-at.result (omega arith) in
    let same = ap (λ (l : List Cmd). commands_weight (commands_of l)) c.as_slice-commands.ensures.value in
    (omega (arith, whole, inside, same), c.requires)
