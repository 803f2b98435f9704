use Rattle.sap_lemmas.proofs.Common.{◌++◌, ◌∙◌, ap, arith, codes, joined_on_last}
use Rattle.sap_show.specs.Canonical.{command_text, else_text}
use Rattle.sap_tree.specs.Trees.{command_of, else_of}
use Rattle.sap_tree.proofs.Views.{command_of-case, command_of-if, command_of-try_then}
use Rattle.sap_show.proofs.Texts.{arms_end, arms_step, case_grows, commands_step, decided_grows, list_end, nothing_more, if_grows, text_no_else}
use Rattle.sap_show.proofs.command.+command.Goals as goal

pub commands-loop-one-preserved : goal.commands-loop-one-preserved
commands-loop-one-preserved t c =
    commands_step c.args.margin.now c.args.list.now c.loop-one.one-index c.one-item.result _ _ (omega arith) c.one-item.is c.in_ok-command.ensures ∙ c.loop-one.invariant

pub commands-returns : goal.commands-returns
commands-returns t c = list_end c.args.margin.now c.args.list.now c.loop-one.one-index _ _ (omega arith) c.loop-one.invariant

pub else_block-returns-in-None : goal.else_block-returns-in-None
else_block-returns-in-None t c =
    nothing_more _ _ (ap (λ o. else_text c.args.margin.now (else_of o)) c.in-None.is ∙ text_no_else c.args.margin.now)

pub command-returns-in_ok-else_block-in-If : goal.command-returns-in_ok-else_block-in-If
command-returns-in_ok-else_block-in-If t c =
    joined_on_last c.extend_from_slice-in-If.result _ c.else_block.new.out.items (codes "\n")
    (c.args.out.now.items ++ command_text c.args.margin.now (command_of c.args.command.now))
    c.extend_from_slice-in-If.ensures.items
    (if_grows c.args.margin.now _ _ _ _ _ c.args.out.now.items _ _ _ _ (ap command_of c.in-If.is ∙ command_of-if _ _ _ _) c.in_ok-extend_from_slice.ensures.items
    c.in_ok-between-in-If.ensures c.in_ok-block-in-If.ensures c.in_ok-else_block-in-If.ensures)

pub arms-loop-arm-preserved : goal.arms-loop-arm-preserved
arms-loop-arm-preserved t c =
    arms_step c.args.margin.now c.args.list.now c.loop-arm.arm-index c.arm-item.result _ _ _ _ _ _ _ (omega arith) c.arm-item.is
    c.as_slice.ensures.value c.in_ok-extend_from_slice.ensures.items
    c.in_ok-parts.ensures c.in_ok-extend_from_slice-2.ensures.items c.in_ok-block.ensures c.in_ok-extend_from_slice-3.ensures.items
    ∙ c.loop-arm.invariant

pub arms-returns : goal.arms-returns
arms-returns t c = arms_end c.args.margin.now c.args.list.now c.loop-arm.arm-index _ _ (omega arith) c.loop-arm.invariant

pub command-returns-in_ok-block-in-TryThen-2 : goal.command-returns-in_ok-block-in-TryThen-2
command-returns-in_ok-block-in-TryThen-2 t c =
    joined_on_last c.extend_from_slice-in-TryThen-2.result _ c.block-in-TryThen-2.new.out.items (codes "\n")
    (c.args.out.now.items ++ command_text c.args.margin.now (command_of c.args.command.now))
    c.extend_from_slice-in-TryThen-2.ensures.items
    (decided_grows c.args.margin.now _ _ _ _ _ c.args.out.now.items _ _ _ _ _ (ap command_of c.in-TryThen.is ∙ command_of-try_then _ _ _ _) c.in_ok-extend_from_slice.ensures.items
    c.in_ok-simple_before-in-TryThen.ensures c.in_ok-block-in-TryThen.ensures c.in_ok-extend_from_slice-in-TryThen.ensures.items
    c.in_ok-block-in-TryThen-2.ensures)

pub command-returns-in_ok-extend_from_slice-in-Case : goal.command-returns-in_ok-extend_from_slice-in-Case
command-returns-in_ok-extend_from_slice-in-Case t c =
    joined_on_last c.extend_from_slice-in-Case-2.result _ c.extend_from_slice-in-Case.new.self.items (codes "}\n")
    (c.args.out.now.items ++ command_text c.args.margin.now (command_of c.args.command.now))
    c.extend_from_slice-in-Case-2.ensures.items
    (case_grows c.args.margin.now _ _ _ _ _ _ _ _ c.args.out.now.items _ _ _ _ _ (ap command_of c.in-Case.is
    ∙ command_of-case _ _ _ _) (c.as_slice.ensures.value ∙ c.in_ok-inner-in-Case.ensures)
    (c.as_slice-in-Case-2.ensures.value ∙ c.in_ok-inner-in-Case.ensures) c.as_slice-in-Case.ensures.value c.in_ok-extend_from_slice.ensures.items
    c.in_ok-between-in-Case.ensures c.in_ok-arms-in-Case.ensures c.in_ok-last_block-in-Case.ensures c.in_ok-extend_from_slice-in-Case.ensures.items)
