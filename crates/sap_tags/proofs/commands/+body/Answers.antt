use Rattle.std.proofs.Common.{◌≡◌, ◌+◌, ◌∙◌, List, OnOk, ap, sym, subst, arith}
use Rattle.sap_ir.specs.Prelude.{Body, body_of}
use Rattle.sap_program.specs.declared.program.Command.{Command}
use Rattle.sap_program.specs.declared.program.Arm.{Arm}
use Rattle.sap_tags_terms.specs.Parts.{CommandFew, CommandRanged, CommandsFew, CommandsRanged, arm_wires, command_wires, commands_wires}
use Rattle.sap_tags_terms.proofs.Listed.{arms_in, arms_drop, arms_past, wires_try, wires_if, wires_then, wires_case, wires_in, wires_drop}
use Rattle.sap_tags_effects.proofs.Pushed.{empty, fresh}
use Rattle.sap_tags.proofs.Commanded.{fresh_blocks, do_made, try_made, then_made, if_made, case_made, arms_step, arms_rest, arm_wires_step, commands_step, commands_rest, wires_step}
use Rattle.sap_tags_terms.proofs.Few.{few_accepted, few_arm, few_arms, few_count, few_handler, few_in, few_last, few_no, few_refused, few_yes}
use Rattle.sap_tags_terms.proofs.Ranged.{ranged_accepted, ranged_arm, ranged_arms, ranged_last, ranged_number, ranged_refused, ranged_then_step, ranged_do, ranged_try_step, ranged_handler, ranged_condition, ranged_yes, ranged_no, ranged_in}
use Rattle.sap_tags.proofs.commands.+body.Goals as goal

pub command-attempt-requires-clause-ranged : goal.command-attempt-requires-clause-ranged
command-attempt-requires-clause-ranged t c = ranged_do c.args.setting.now c.args.command.now c.in-Do.step c.in-Do.is c.requires.ranged

pub command-commands-requires : goal.command-commands-requires
command-commands-requires t c =
    let w : command_wires c.args.command.now ≡ 5 + commands_wires c.as_slice-handler.result.now =
    ap command_wires c.in-Try.is ∙ wires_try c.in-Try.step c.in-Try.hang c.in-Try.handler
    ∙ ap (λ (l : List Command). 5 + commands_wires l) (sym c.as_slice-handler.ensures.value) in (
      omega (arith, w),
      (
        omega (arith, w, c.requires.few),
        (
          ranged_handler c.args.setting.now c.args.command.now c.in-Try.step c.in-Try.hang c.in-Try.handler c.as_slice-handler.result.now
              c.in-Try.is c.as_slice-handler.ensures.value c.requires.ranged,
          few_handler c.args.command.now c.in-Try.step c.in-Try.hang c.in-Try.handler c.as_slice-handler.result.now c.in-Try.is c.as_slice-handler.ensures.value c.requires.arms,
        ),
      ),
    )

pub command-begin-requires-clause-ranged : goal.command-begin-requires-clause-ranged
command-begin-requires-clause-ranged t c = ranged_try_step c.args.setting.now c.args.command.now c.in-Try.step c.in-Try.hang c.in-Try.handler c.in-Try.is c.requires.ranged

pub command-decide-requires-clause-ranged : goal.command-decide-requires-clause-ranged
command-decide-requires-clause-ranged t c = ranged_try_step c.args.setting.now c.args.command.now c.in-Try.step c.in-Try.hang c.in-Try.handler c.in-Try.is c.requires.ranged

pub command-choose_branch-requires-clause-ranged : goal.command-choose_branch-requires-clause-ranged
command-choose_branch-requires-clause-ranged t c =
    ranged_condition c.args.setting.now c.args.command.now c.in-If.hang c.in-If.condition c.in-If.yes c.in-If.no c.in-If.is c.requires.ranged

pub command-commands-requires-in-If : goal.command-commands-requires-in-If
command-commands-requires-in-If t c =
    let w : command_wires c.args.command.now ≡ 2 + commands_wires c.as_slice.result.now + commands_wires c.in-If.no.items =
    ap command_wires c.in-If.is ∙ wires_if c.in-If.hang c.in-If.condition c.in-If.yes c.in-If.no
    ∙ ap (λ (l : List Command). 2 + commands_wires l + commands_wires c.in-If.no.items) (sym c.as_slice.ensures.value) in (
      omega (arith, w),
      (
        omega (arith, w, c.requires.few),
        (
          ranged_yes c.args.setting.now c.args.command.now c.in-If.hang c.in-If.condition c.in-If.yes c.in-If.no c.as_slice.result.now
              c.in-If.is c.as_slice.ensures.value c.requires.ranged,
          few_yes c.args.command.now c.in-If.hang c.in-If.condition c.in-If.yes c.in-If.no c.as_slice.result.now c.in-If.is c.as_slice.ensures.value c.requires.arms,
        ),
      ),
    )

pub command-commands-requires-in-If-2 : goal.command-commands-requires-in-If-2
command-commands-requires-in-If-2 t c =
    let w : command_wires c.args.command.now ≡ 2 + commands_wires c.in-If.yes.items + commands_wires c.as_slice-in-If.result.now =
    ap command_wires c.in-If.is ∙ wires_if c.in-If.hang c.in-If.condition c.in-If.yes c.in-If.no
    ∙ ap (λ (l : List Command). 2 + commands_wires c.in-If.yes.items + commands_wires l) (sym c.as_slice-in-If.ensures.value) in
    let y : commands_wires c.as_slice.result.now ≡ commands_wires c.in-If.yes.items = ap commands_wires c.as_slice.ensures.value in (
      omega (arith, w),
      (
        omega (arith, w, y, c.in_ok-commands-in-If.ensures.wires, c.requires.few),
        (
          ranged_no c.args.setting.now c.args.command.now c.in-If.hang c.in-If.condition c.in-If.yes c.in-If.no c.as_slice-in-If.result.now
              c.in-If.is c.as_slice-in-If.ensures.value c.requires.ranged,
          few_no c.args.command.now c.in-If.hang c.in-If.condition c.in-If.yes c.in-If.no c.as_slice-in-If.result.now c.in-If.is c.as_slice-in-If.ensures.value c.requires.arms,
        ),
      ),
    )

pub command-select-requires : goal.command-select-requires
command-select-requires t c = ranged_condition c.args.setting.now c.args.command.now c.in-If.hang c.in-If.condition c.in-If.yes c.in-If.no c.in-If.is c.requires.ranged

pub command-returns-in-Do-clause-body : goal.command-returns-in-Do-clause-body
command-returns-in-Do-clause-body t c =
    subst (λ (b : Body). OnOk c.attempt.result (body_of c.attempt.new.out.items ≡ b))
    (do_made c.args.setting.now c.args.at.now c.args.p c.args.next.now c.args.command.now c.in-Do.step (body_of c.args.out.now.items) c.in-Do.is)
    c.attempt.ensures

pub command-returns-in_ok-commands-in-Try-clause-body :
    goal.command-returns-in_ok-commands-in-Try-clause-body
command-returns-in_ok-commands-in-Try-clause-body t c =
    subst (λ (b : Body). OnOk c.decide.result (body_of c.decide.new.out.items ≡ b))
    (try_made c.args.setting.now c.args.at.now c.args.p c.args.next.now c.args.command.now c.in-Try.step c.in-Try.hang c.in-Try.handler
    c.as_slice-handler.result.now (body_of c.args.out.now.items) (body_of c.begin.new.out.items) (body_of c.new-accepted.result.items)
    (body_of c.refuse.new.out.items) (body_of c.commands.new.out.items) c.in-Try.is c.as_slice-handler.ensures.value
    (empty c.new-accepted.result.items c.new-accepted.ensures.items)
    (fresh c.new-refused.result.items _ _ c.new-refused.ensures.items c.in_ok-refuse-in-Try.ensures) c.in_ok-commands-in-Try.ensures.body c.in_ok-begin-in-Try.ensures)
    c.decide.ensures

pub command-returns-in_ok-commands-in-If-2-clause-body :
    goal.command-returns-in_ok-commands-in-If-2-clause-body
command-returns-in_ok-commands-in-If-2-clause-body t c =
    subst (λ (b : Body). OnOk c.select.result (body_of c.select.new.out.items ≡ b))
    (if_made c.args.setting.now c.args.at.now c.args.p c.args.next.now c.args.command.now c.in-If.hang c.in-If.condition c.in-If.yes
    c.in-If.no c.as_slice.result.now c.as_slice-in-If.result.now (body_of c.args.out.now.items) (body_of c.choose_branch.new.out.items)
    (body_of c.commands-in-If.new.out.items) (body_of c.commands-in-If-2.new.out.items) c.commands-in-If.new.next c.in-If.is
    c.as_slice.ensures.value c.as_slice-in-If.ensures.value c.in_ok-choose_branch-in-If.ensures
    (fresh c.new-first.result.items _ _ c.new-first.ensures.items c.in_ok-commands-in-If.ensures.body) c.in_ok-commands-in-If.ensures.wires
    (fresh c.new-second.result.items _ _ c.new-second.ensures.items c.in_ok-commands-in-If-2.ensures.body))
    c.select.ensures

pub commands-command-requires : goal.commands-command-requires
commands-command-requires t c =
    let cs = c.args.commands.now in
    let i = c.loop-one.one-index in
    let w = wires_in cs i c.one-item.result (omega arith) in
    let e = ap command_wires c.one-item.is in
    let d = wires_drop cs i c.one-item.result (omega arith) in (
      omega (arith, w, e),
      (
        omega (arith, d, e, c.loop-one.invariant.wires, c.requires.few),
        (
          subst (CommandRanged c.args.setting.now) (sym c.one-item.is) (ranged_in c.args.setting.now cs i c.one-item.result (omega arith) c.requires.ranged),
          subst CommandFew (sym c.one-item.is) (few_in cs i c.one-item.result (omega arith) c.requires.arms),
        ),
      ),
    )

pub commands-loop-one-preserved : goal.commands-loop-one-preserved
commands-loop-one-preserved t c = record {
  body = commands_step c.args.setting.now c.args.at.now c.args.p c.args.commands.now c.loop-one.one-index c.one-item.result c.loop-one.next
      c.command.new.next (body_of c.loop-one.out.items) (body_of c.command.new.out.items) _ (omega arith) c.one-item.is
      c.in_ok-command.ensures.body c.in_ok-command.ensures.wires c.loop-one.invariant.body;
  wires = wires_step c.args.commands.now c.loop-one.one-index c.one-item.result c.loop-one.next c.command.new.next _ (omega arith)
      c.one-item.is c.in_ok-command.ensures.wires c.loop-one.invariant.wires;
}

pub commands-returns-clause-body : goal.commands-returns-clause-body
commands-returns-clause-body t c =
    commands_rest c.args.setting.now c.args.at.now c.args.p c.args.commands.now c.loop-one.one-index c.loop-one.next
    (body_of c.loop-one.out.items) _ (omega arith) c.loop-one.invariant.body

pub command-commands-requires-in-TryThen : goal.command-commands-requires-in-TryThen
command-commands-requires-in-TryThen t c =
    let w : command_wires c.args.command.now ≡ 5 + commands_wires c.as_slice-accepted.result.now + commands_wires c.in-TryThen.refused.items =
    ap command_wires c.in-TryThen.is ∙ wires_then c.in-TryThen.step c.in-TryThen.hang c.in-TryThen.accepted c.in-TryThen.refused
    ∙ ap (λ (l : List Command). 5 + commands_wires l + commands_wires c.in-TryThen.refused.items) (sym c.as_slice-accepted.ensures.value) in (
      omega (arith, w),
      (
        omega (arith, w, c.requires.few),
        (
          ranged_accepted c.args.setting.now c.args.command.now c.in-TryThen.step c.in-TryThen.hang c.in-TryThen.accepted
              c.in-TryThen.refused c.as_slice-accepted.result.now c.in-TryThen.is c.as_slice-accepted.ensures.value c.requires.ranged,
          few_accepted c.args.command.now c.in-TryThen.step c.in-TryThen.hang c.in-TryThen.accepted c.in-TryThen.refused
              c.as_slice-accepted.result.now c.in-TryThen.is c.as_slice-accepted.ensures.value c.requires.arms,
        ),
      ),
    )

pub command-commands-requires-in-TryThen-2 : goal.command-commands-requires-in-TryThen-2
command-commands-requires-in-TryThen-2 t c =
    let w : command_wires c.args.command.now ≡ 5 + commands_wires c.in-TryThen.accepted.items + commands_wires c.as_slice-refused.result.now =
    ap command_wires c.in-TryThen.is ∙ wires_then c.in-TryThen.step c.in-TryThen.hang c.in-TryThen.accepted c.in-TryThen.refused
    ∙ ap (λ (l : List Command). 5 + commands_wires c.in-TryThen.accepted.items + commands_wires l) (sym c.as_slice-refused.ensures.value) in
    let y : commands_wires c.as_slice-accepted.result.now ≡ commands_wires c.in-TryThen.accepted.items = ap commands_wires c.as_slice-accepted.ensures.value in (
      omega (arith, w),
      (
        omega (arith, w, y, c.in_ok-commands-in-TryThen.ensures.wires, c.requires.few),
        (
          ranged_refused c.args.setting.now c.args.command.now c.in-TryThen.step c.in-TryThen.hang c.in-TryThen.accepted
              c.in-TryThen.refused c.as_slice-refused.result.now c.in-TryThen.is c.as_slice-refused.ensures.value c.requires.ranged,
          few_refused c.args.command.now c.in-TryThen.step c.in-TryThen.hang c.in-TryThen.accepted c.in-TryThen.refused
              c.as_slice-refused.result.now c.in-TryThen.is c.as_slice-refused.ensures.value c.requires.arms,
        ),
      ),
    )

pub command-begin-requires-in-TryThen-clause-ranged : goal.command-begin-requires-in-TryThen-clause-ranged
command-begin-requires-in-TryThen-clause-ranged t c =
    ranged_then_step c.args.setting.now c.args.command.now c.in-TryThen.step c.in-TryThen.hang c.in-TryThen.accepted c.in-TryThen.refused c.in-TryThen.is c.requires.ranged

pub command-decide-requires-in-TryThen-clause-ranged :
    goal.command-decide-requires-in-TryThen-clause-ranged
command-decide-requires-in-TryThen-clause-ranged t c =
    ranged_then_step c.args.setting.now c.args.command.now c.in-TryThen.step c.in-TryThen.hang c.in-TryThen.accepted c.in-TryThen.refused c.in-TryThen.is c.requires.ranged

pub command-returns-in_ok-commands-in-TryThen-2-clause-body :
    goal.command-returns-in_ok-commands-in-TryThen-2-clause-body
command-returns-in_ok-commands-in-TryThen-2-clause-body t c =
    subst (λ (b : Body). OnOk c.decide-in-TryThen.result (body_of c.decide-in-TryThen.new.out.items ≡ b))
    (then_made c.args.setting.now c.args.at.now c.args.p c.args.next.now c.args.command.now c.in-TryThen.step c.in-TryThen.hang
    c.in-TryThen.accepted c.in-TryThen.refused c.as_slice-accepted.result.now c.as_slice-refused.result.now
    (body_of c.args.out.now.items) (body_of c.begin-in-TryThen.new.out.items) (body_of c.commands-in-TryThen.new.out.items)
    (body_of c.refuse-in-TryThen.new.out.items) (body_of c.commands-in-TryThen-2.new.out.items) c.commands-in-TryThen.new.next
    c.in-TryThen.is c.as_slice-accepted.ensures.value c.as_slice-refused.ensures.value
    (fresh c.new-passed.result.items _ _ c.new-passed.ensures.items c.in_ok-commands-in-TryThen.ensures.body) c.in_ok-commands-in-TryThen.ensures.wires
    (fresh c.new-failed.result.items _ _ c.new-failed.ensures.items c.in_ok-refuse-in-TryThen.ensures) c.in_ok-commands-in-TryThen-2.ensures.body c.in_ok-begin-in-TryThen.ensures)
    c.decide-in-TryThen.ensures

pub command-add_arms-requires : goal.command-add_arms-requires
command-add_arms-requires t c =
    let w : command_wires c.args.command.now ≡ 4 + arm_wires c.as_slice-arms.result.now + commands_wires c.in-Case.last.items =
    ap command_wires c.in-Case.is ∙ wires_case c.in-Case.hang c.in-Case.number c.in-Case.arms c.in-Case.last
    ∙ ap (λ (l : List Arm). 4 + arm_wires l + commands_wires c.in-Case.last.items) (sym c.as_slice-arms.ensures.value) in (
      omega (arith, w),
      (
        omega (arith, w, c.requires.few),
        (
          ranged_arms c.args.setting.now c.args.command.now c.in-Case.hang c.in-Case.number c.in-Case.arms c.in-Case.last
              c.as_slice-arms.result.now c.in-Case.is c.as_slice-arms.ensures.value c.requires.ranged,
          few_arms c.args.command.now c.in-Case.hang c.in-Case.number c.in-Case.arms c.in-Case.last c.as_slice-arms.result.now c.in-Case.is
              c.as_slice-arms.ensures.value c.requires.arms,
        ),
      ),
    )

pub command-commands-requires-in-Case : goal.command-commands-requires-in-Case
command-commands-requires-in-Case t c =
    let w : command_wires c.args.command.now ≡ 4 + arm_wires c.in-Case.arms.items + commands_wires c.as_slice-last.result.now =
    ap command_wires c.in-Case.is ∙ wires_case c.in-Case.hang c.in-Case.number c.in-Case.arms c.in-Case.last
    ∙ ap (λ (l : List Command). 4 + arm_wires c.in-Case.arms.items + commands_wires l) (sym c.as_slice-last.ensures.value) in
    let y : arm_wires c.as_slice-arms.result.now ≡ arm_wires c.in-Case.arms.items = ap arm_wires c.as_slice-arms.ensures.value in (
      omega (arith, w),
      (
        omega (arith, w, y, c.in_ok-add_arms-in-Case.ensures.wires, c.requires.few),
        (
          ranged_last c.args.setting.now c.args.command.now c.in-Case.hang c.in-Case.number c.in-Case.arms c.in-Case.last
              c.as_slice-last.result.now c.in-Case.is c.as_slice-last.ensures.value c.requires.ranged,
          few_last c.args.command.now c.in-Case.hang c.in-Case.number c.in-Case.arms c.in-Case.last c.as_slice-last.result.now c.in-Case.is
              c.as_slice-last.ensures.value c.requires.arms,
        ),
      ),
    )

pub command-choose_arm-requires-clause-ranged : goal.command-choose_arm-requires-clause-ranged
command-choose_arm-requires-clause-ranged t c =
    ranged_number c.args.setting.now c.args.command.now c.in-Case.hang c.in-Case.number c.in-Case.arms c.in-Case.last c.in-Case.is c.requires.ranged

pub command-pick_block-requires-clause-ranged : goal.command-pick_block-requires-clause-ranged
command-pick_block-requires-clause-ranged t c =
    ranged_number c.args.setting.now c.args.command.now c.in-Case.hang c.in-Case.number c.in-Case.arms c.in-Case.last c.in-Case.is c.requires.ranged

pub command-pick_block-requires-clause-arms : goal.command-pick_block-requires-clause-arms
command-pick_block-requires-clause-arms t c =
    few_count c.args.command.now c.in-Case.hang c.in-Case.number c.in-Case.arms c.in-Case.last c.as_slice-arms.result.now c.in-Case.is c.as_slice-arms.ensures.value c.requires.arms

pub command-returns-in_ok-push-in-Case-clause-body : goal.command-returns-in_ok-push-in-Case-clause-body
command-returns-in_ok-push-in-Case-clause-body t c =
    subst (λ (b : Body). OnOk c.pick_block.result (body_of c.pick_block.new.out.items ≡ b))
    (case_made c.args.setting.now c.args.at.now c.args.p c.args.next.now c.args.command.now c.in-Case.hang c.in-Case.number c.in-Case.arms
    c.in-Case.last c.as_slice-arms.result.now c.as_slice-last.result.now (body_of c.args.out.now.items)
    (body_of c.choose_arm.new.out.items) c.add_arms.new.next c.add_arms.new.blocks.items c.push.new.self.items c.commands-in-Case.new.out
    c.in-Case.is c.as_slice-arms.ensures.value c.as_slice-last.ensures.value
    (fresh_blocks c.new-blocks.result.items c.add_arms.new.blocks.items _ c.new-blocks.ensures.items c.in_ok-add_arms-in-Case.ensures.blocks) c.in_ok-add_arms-in-Case.ensures.wires
    (fresh c.new-block.result.items _ _ c.new-block.ensures.items c.in_ok-commands-in-Case.ensures.body) c.in_ok-push-in-Case.ensures.items c.in_ok-choose_arm-in-Case.ensures)
    c.pick_block.ensures

pub add_arms-commands-requires : goal.add_arms-commands-requires
add_arms-commands-requires t c =
    let s = c.args.setting.now in
    let arms = c.args.arms.now in
    let i = c.loop-arm.arm-index in
    let w = arms_in arms i c.arm-item.result (omega arith) in
    let d = arms_drop arms i c.arm-item.result (omega arith) in
    let e = ap (λ (a : Arm). commands_wires a.block.items) c.arm-item.is in
    let f = ap commands_wires c.as_slice-list.ensures.value in
    let same = ap (λ (a : Arm). a.block.items) (sym c.arm-item.is) ∙ sym c.as_slice-list.ensures.value in (
      omega (arith, w, e, f),
      (
        omega (arith, d, e, f, c.loop-arm.invariant.wires, c.requires.few),
        (
          subst (CommandsRanged s) same (ranged_arm s arms i c.arm-item.result (omega arith) c.requires.ranged),
          subst CommandsFew same (few_arm arms i c.arm-item.result (omega arith) c.requires.arms),
        ),
      ),
    )

pub add_arms-loop-arm-preserved : goal.add_arms-loop-arm-preserved
add_arms-loop-arm-preserved t c = record {
  blocks = arms_step c.args.setting.now c.args.at.now c.args.p c.args.arms.now c.loop-arm.arm-index c.arm-item.result
      c.as_slice-list.result.now c.loop-arm.next c.commands.new.next c.loop-arm.blocks.items c.push.new.self.items c.commands.new.out
      _ (omega arith) c.arm-item.is c.as_slice-list.ensures.value c.in_ok-push.ensures.items
      (fresh c.new-block.result.items _ _ c.new-block.ensures.items c.in_ok-commands.ensures.body) c.in_ok-commands.ensures.wires c.loop-arm.invariant.blocks;
  wires = arm_wires_step c.args.arms.now c.loop-arm.arm-index c.arm-item.result c.as_slice-list.result.now c.loop-arm.next
      c.commands.new.next _ (omega arith) c.arm-item.is c.as_slice-list.ensures.value c.in_ok-commands.ensures.wires c.loop-arm.invariant.wires;
}

pub add_arms-returns-clause-blocks : goal.add_arms-returns-clause-blocks
add_arms-returns-clause-blocks t c = arms_rest c.args.setting.now c.args.at.now c.args.p c.args.arms.now c.loop-arm.arm-index
    c.loop-arm.next _ _ (omega arith) c.loop-arm.invariant.blocks

pub add_arms-returns-clause-wires : goal.add_arms-returns-clause-wires
add_arms-returns-clause-wires t c =
    let p = arms_past c.args.arms.now c.loop-arm.arm-index (omega arith) in
    omega (arith, p, c.loop-arm.invariant.wires)
