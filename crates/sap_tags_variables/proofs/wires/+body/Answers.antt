use Rattle.std.proofs.Common.{◌≡◌, ◌+◌, ◌∙◌, IfOk, OnOk, ap, sym, subst, arith}
use Rattle.sap_program.specs.Views.{block_of, command_of}
use Rattle.sap_tags_terms.specs.Code.{entities_in, named_in, tag_width}
use Rattle.sap_ir.specs.Plain.Nested.{seat_width}
use Rattle.sap_tagged.specs.Commands.{wires, wires_block}
use Rattle.sap_tags_terms.specs.Parts.{CommandFew, CommandRanged, CommandsFew, CommandsRanged, arm_wires, commands_wires}
use Rattle.sap_tags_terms.proofs.Listed.{arms_in, wires_block_are}
use Rattle.sap_tags_terms.proofs.Few.{few_accepted, few_arm, few_arms, few_handler, few_in, few_last, few_no, few_refused, few_yes}
use Rattle.sap_tags_terms.proofs.Ranged.{ranged_accepted, ranged_arm, ranged_arms, ranged_handler, ranged_in, ranged_last, ranged_no, ranged_number, ranged_refused, ranged_yes}
use Rattle.sap_tags_variables.proofs.Wirings.{arm_end, arm_last, arm_next, arm_room, arm_step, block_end, block_in, block_last, block_next, block_room, block_step, case_count, case_wired, if_count, then_count, try_count}
use Rattle.sap_tags_variables.proofs.wires.+body.Goals as goal

pub add_block-add_command-requires : goal.add_block-add_command-requires
add_block-add_command-requires t c =
    let s = c.args.setting.now in
    let i = block_in (entities_in s) c.args.block.now c.loop-command.command-index c.command-item.result (omega arith) c.command-item.is in (
      omega (arith, i),
      (
        block_room (named_in s) (tag_width s) (entities_in s) c.args.block.now c.loop-command.command-index c.command-item.result
            c.loop-command.next 0 _ (omega arith) c.command-item.is c.loop-command.invariant.count c.requires.few,
        (
          subst (CommandRanged s) (sym c.command-item.is) (ranged_in s c.args.block.now c.loop-command.command-index c.command-item.result (omega arith) c.requires.ranged),
          subst CommandFew (sym c.command-item.is) (few_in c.args.block.now c.loop-command.command-index c.command-item.result (omega arith) c.requires.arms),
        ),
      ),
    )

pub add_block-loop-command-preserved : goal.add_block-loop-command-preserved
add_block-loop-command-preserved t c =
    let s = c.args.setting.now in
    record {
      wires =
          block_step (named_in s) (tag_width s) (entities_in s) c.args.block.now c.loop-command.command-index c.command-item.result
          c.loop-command.next c.in_ok-next.next 0 (omega arith) c.command-item.is c.loop-command.wires.items
          c.add_command.new.wires.items _ c.in_ok-next.ensures.wires c.in_ok-next.ensures.next c.loop-command.invariant.wires;
      count =
          block_next (named_in s) (tag_width s) (entities_in s) c.args.block.now c.loop-command.command-index c.command-item.result
          c.loop-command.next c.in_ok-next.next _ (omega arith) c.command-item.is c.in_ok-next.ensures.next c.loop-command.invariant.count;
    }

pub add_block-returns-clause-wires : goal.add_block-returns-clause-wires
add_block-returns-clause-wires t c =
    let s = c.args.setting.now in
    block_end (named_in s) (tag_width s) (entities_in s) c.args.block.now c.loop-command.command-index c.loop-command.next
    c.loop-command.wires.items _ (omega arith) c.loop-command.invariant.wires

pub add_block-returns-clause-next : goal.add_block-returns-clause-next
add_block-returns-clause-next t c =
    let s = c.args.setting.now in
    block_last (named_in s) (tag_width s) (entities_in s) c.args.block.now c.loop-command.command-index c.loop-command.next _ (omega arith) c.loop-command.invariant.count

pub add_command-add_block-requires : goal.add_command-add_block-requires
add_command-add_block-requires t c =
    let e = try_count (entities_in c.args.setting.now) c.args.command.now c.in-Try.step c.in-Try.hang c.in-Try.handler c.as_slice.result.now
    c.in-Try.is c.as_slice.ensures.value in (
      omega (arith, e),
      (
        omega (arith, e, c.in_ok-next-in-Try.ensures.next, c.requires.few),
        (
          ranged_handler c.args.setting.now c.args.command.now c.in-Try.step c.in-Try.hang c.in-Try.handler c.as_slice.result.now
              c.in-Try.is c.as_slice.ensures.value c.requires.ranged,
          few_handler c.args.command.now c.in-Try.step c.in-Try.hang c.in-Try.handler c.as_slice.result.now c.in-Try.is c.as_slice.ensures.value c.requires.arms,
        ),
      ),
    )

pub add_command-add_block-requires-in-If : goal.add_command-add_block-requires-in-If
add_command-add_block-requires-in-If t c =
    let n = entities_in c.args.setting.now in
    let e = if_count n c.args.command.now c.in-If.hang c.in-If.condition c.in-If.yes c.in-If.no c.in-If.is in
    let f = ap (λ cs. wires_block (block_of n cs)) c.as_slice-in-If.ensures.value in (
      omega (arith, e, f),
      (
        omega (arith, e, f, c.requires.few),
        (
          ranged_yes c.args.setting.now c.args.command.now c.in-If.hang c.in-If.condition c.in-If.yes c.in-If.no c.as_slice-in-If.result.now
              c.in-If.is c.as_slice-in-If.ensures.value c.requires.ranged,
          few_yes c.args.command.now c.in-If.hang c.in-If.condition c.in-If.yes c.in-If.no c.as_slice-in-If.result.now c.in-If.is c.as_slice-in-If.ensures.value c.requires.arms,
        ),
      ),
    )

pub add_command-add_block-requires-in-If-2 : goal.add_command-add_block-requires-in-If-2
add_command-add_block-requires-in-If-2 t c =
    let n = entities_in c.args.setting.now in
    let e = if_count n c.args.command.now c.in-If.hang c.in-If.condition c.in-If.yes c.in-If.no c.in-If.is in
    let f = ap (λ cs. wires_block (block_of n cs)) c.as_slice-in-If.ensures.value in
    let g = ap (λ cs. wires_block (block_of n cs)) c.as_slice-in-If-2.ensures.value in (
      omega (arith, e, g),
      (
        omega (arith, e, f, g, c.in_ok-next-in-If.ensures.next, c.requires.few),
        (
          ranged_no c.args.setting.now c.args.command.now c.in-If.hang c.in-If.condition c.in-If.yes c.in-If.no
              c.as_slice-in-If-2.result.now c.in-If.is c.as_slice-in-If-2.ensures.value c.requires.ranged,
          few_no c.args.command.now c.in-If.hang c.in-If.condition c.in-If.yes c.in-If.no c.as_slice-in-If-2.result.now c.in-If.is c.as_slice-in-If-2.ensures.value c.requires.arms,
        ),
      ),
    )

pub add_command-add_block-requires-in-TryThen : goal.add_command-add_block-requires-in-TryThen
add_command-add_block-requires-in-TryThen t c =
    let n = entities_in c.args.setting.now in
    let e = then_count n c.args.command.now c.in-TryThen.step c.in-TryThen.hang c.in-TryThen.accepted c.in-TryThen.refused c.in-TryThen.is in
    let f = ap (λ cs. wires_block (block_of n cs)) c.as_slice-in-TryThen.ensures.value in (
      omega (arith, e, f),
      (
        omega (arith, e, f, c.in_ok-next-in-TryThen.ensures.next, c.requires.few),
        (
          ranged_accepted c.args.setting.now c.args.command.now c.in-TryThen.step c.in-TryThen.hang c.in-TryThen.accepted
              c.in-TryThen.refused c.as_slice-in-TryThen.result.now c.in-TryThen.is c.as_slice-in-TryThen.ensures.value c.requires.ranged,
          few_accepted c.args.command.now c.in-TryThen.step c.in-TryThen.hang c.in-TryThen.accepted c.in-TryThen.refused
              c.as_slice-in-TryThen.result.now c.in-TryThen.is c.as_slice-in-TryThen.ensures.value c.requires.arms,
        ),
      ),
    )

pub add_command-add_block-requires-in-TryThen-2 : goal.add_command-add_block-requires-in-TryThen-2
add_command-add_block-requires-in-TryThen-2 t c =
    let n = entities_in c.args.setting.now in
    let e = then_count n c.args.command.now c.in-TryThen.step c.in-TryThen.hang c.in-TryThen.accepted c.in-TryThen.refused c.in-TryThen.is in
    let f = ap (λ cs. wires_block (block_of n cs)) c.as_slice-in-TryThen.ensures.value in
    let g = ap (λ cs. wires_block (block_of n cs)) c.as_slice-in-TryThen-2.ensures.value in (
      omega (arith, e, g),
      (
        omega (arith, e, f, g, c.in_ok-next-in-TryThen.ensures.next, c.in_ok-next-in-TryThen-2.ensures.next, c.requires.few),
        (
          ranged_refused c.args.setting.now c.args.command.now c.in-TryThen.step c.in-TryThen.hang c.in-TryThen.accepted
              c.in-TryThen.refused c.as_slice-in-TryThen-2.result.now c.in-TryThen.is c.as_slice-in-TryThen-2.ensures.value c.requires.ranged,
          few_refused c.args.command.now c.in-TryThen.step c.in-TryThen.hang c.in-TryThen.accepted c.in-TryThen.refused
              c.as_slice-in-TryThen-2.result.now c.in-TryThen.is c.as_slice-in-TryThen-2.ensures.value c.requires.arms,
        ),
      ),
    )

pub add_arms-add_block-requires : goal.add_arms-add_block-requires
add_arms-add_block-requires t c =
    let s = c.args.setting.now in
    let n = entities_in s in
    let arms = c.args.arms.now in
    let i = c.loop-arm.arm-index in
    let w = arms_in arms i c.arm-item.result (omega arith) in
    let e = ap (λ a. commands_wires a.block.items) c.arm-item.is in
    let f = wires_block_are n c.as_slice.result.now ∙ ap commands_wires c.as_slice.ensures.value in (
      omega (arith, w, e, f),
      (
        arm_room (named_in s) (tag_width s) n arms i c.arm-item.result c.as_slice.result.now c.loop-arm.next 0 _ (omega arith) c.arm-item.is
            c.as_slice.ensures.value c.loop-arm.invariant.count c.requires.few,
        (
          subst (CommandsRanged s) (ap (λ a. a.block.items) (sym c.arm-item.is)
              ∙ sym c.as_slice.ensures.value) (ranged_arm s arms i c.arm-item.result (omega arith) c.requires.ranged),
          subst CommandsFew (ap (λ a. a.block.items) (sym c.arm-item.is) ∙ sym c.as_slice.ensures.value) (few_arm arms i c.arm-item.result (omega arith) c.requires.arms),
        ),
      ),
    )

pub add_arms-loop-arm-preserved : goal.add_arms-loop-arm-preserved
add_arms-loop-arm-preserved t c =
    let s = c.args.setting.now in
    record {
      wires =
          arm_step (named_in s) (tag_width s) (entities_in s) c.args.arms.now c.loop-arm.arm-index c.arm-item.result c.as_slice.result.now
          c.loop-arm.next c.in_ok-next.next 0 (omega arith) c.arm-item.is c.as_slice.ensures.value c.loop-arm.wires.items
          c.add_block.new.wires.items _ c.in_ok-next.ensures.wires c.in_ok-next.ensures.next c.loop-arm.invariant.wires;
      count =
          arm_next (named_in s) (tag_width s) (entities_in s) c.args.arms.now c.loop-arm.arm-index c.arm-item.result c.as_slice.result.now
          c.loop-arm.next c.in_ok-next.next _ (omega arith) c.arm-item.is c.as_slice.ensures.value c.in_ok-next.ensures.next c.loop-arm.invariant.count;
    }

pub add_arms-returns-clause-wires : goal.add_arms-returns-clause-wires
add_arms-returns-clause-wires t c =
    let s = c.args.setting.now in
    arm_end (named_in s) (tag_width s) (entities_in s) c.args.arms.now c.loop-arm.arm-index c.loop-arm.next c.loop-arm.wires.items _ (omega arith) c.loop-arm.invariant.wires

pub add_arms-returns-clause-next : goal.add_arms-returns-clause-next
add_arms-returns-clause-next t c =
    let s = c.args.setting.now in
    arm_last (named_in s) (tag_width s) (entities_in s) c.args.arms.now c.loop-arm.arm-index c.loop-arm.next _ (omega arith) c.loop-arm.invariant.count

pub add_command-overflow_add-k-in-Case : goal.add_command-overflow_add-k-in-Case
add_command-overflow_add-k-in-Case t c =
    let e = case_count (entities_in c.args.setting.now) c.args.command.now c.in-Case.hang c.in-Case.number c.in-Case.arms c.in-Case.last c.in-Case.is in
    omega (arith, e, c.requires.few)

pub add_command-width_of-width-requires : goal.add_command-width_of-width-requires
add_command-width_of-width-requires t c =
    ranged_number c.args.setting.now c.args.command.now c.in-Case.hang c.in-Case.number c.in-Case.arms c.in-Case.last c.in-Case.is c.requires.ranged

pub add_command-overflow_add-k-in-Case-2 : goal.add_command-overflow_add-k-in-Case-2
add_command-overflow_add-k-in-Case-2 t c =
    let e = case_count (entities_in c.args.setting.now) c.args.command.now c.in-Case.hang c.in-Case.number c.in-Case.arms c.in-Case.last c.in-Case.is in
    omega (arith, e, c.requires.few)

pub add_command-overflow_add-k-in-Case-3 : goal.add_command-overflow_add-k-in-Case-3
add_command-overflow_add-k-in-Case-3 t c =
    let e = case_count (entities_in c.args.setting.now) c.args.command.now c.in-Case.hang c.in-Case.number c.in-Case.arms c.in-Case.last c.in-Case.is in
    omega (arith, e, c.requires.few)

pub add_command-overflow_add-k-in-Case-4 : goal.add_command-overflow_add-k-in-Case-4
add_command-overflow_add-k-in-Case-4 t c =
    let e = case_count (entities_in c.args.setting.now) c.args.command.now c.in-Case.hang c.in-Case.number c.in-Case.arms c.in-Case.last c.in-Case.is in
    omega (arith, e, c.requires.few)

pub add_command-add_arms-requires : goal.add_command-add_arms-requires
add_command-add_arms-requires t c =
    let e = case_count (entities_in c.args.setting.now) c.args.command.now c.in-Case.hang c.in-Case.number c.in-Case.arms c.in-Case.last c.in-Case.is in
    let f = ap arm_wires c.as_slice-in-Case.ensures.value in (
      omega (arith, e, f),
      (
        omega (arith, e, f, c.requires.few),
        (
          ranged_arms c.args.setting.now c.args.command.now c.in-Case.hang c.in-Case.number c.in-Case.arms c.in-Case.last
              c.as_slice-in-Case.result.now c.in-Case.is c.as_slice-in-Case.ensures.value c.requires.ranged,
          few_arms c.args.command.now c.in-Case.hang c.in-Case.number c.in-Case.arms c.in-Case.last c.as_slice-in-Case.result.now
              c.in-Case.is c.as_slice-in-Case.ensures.value c.requires.arms,
        ),
      ),
    )

pub add_command-add_block-requires-in-Case : goal.add_command-add_block-requires-in-Case
add_command-add_block-requires-in-Case t c =
    let n = entities_in c.args.setting.now in
    let e = case_count n c.args.command.now c.in-Case.hang c.in-Case.number c.in-Case.arms c.in-Case.last c.in-Case.is in
    let f = ap arm_wires c.as_slice-in-Case.ensures.value in
    let g = ap (λ cs. wires_block (block_of n cs)) c.as_slice-in-Case-2.ensures.value in (
      omega (arith, e, g),
      (
        omega (arith, e, f, g, c.in_ok-next-in-Case.ensures.next, c.requires.few),
        (
          ranged_last c.args.setting.now c.args.command.now c.in-Case.hang c.in-Case.number c.in-Case.arms c.in-Case.last
              c.as_slice-in-Case-2.result.now c.in-Case.is c.as_slice-in-Case-2.ensures.value c.requires.ranged,
          few_last c.args.command.now c.in-Case.hang c.in-Case.number c.in-Case.arms c.in-Case.last c.as_slice-in-Case-2.result.now
              c.in-Case.is c.as_slice-in-Case-2.ensures.value c.requires.arms,
        ),
      ),
    )

pub add_command-returns-in_ok-next-in-Case-clause-wires :
    goal.add_command-returns-in_ok-next-in-Case-clause-wires
add_command-returns-in_ok-next-in-Case-clause-wires t c =
    let s = c.args.setting.now in
    subst (λ ws. OnOk c.add_block-in-Case.result (c.add_block-in-Case.new.wires.items ≡ ws))
    (case_wired (named_in s) (tag_width s) (entities_in s) c.args.k c.args.command.now c.in-Case.hang c.in-Case.number c.in-Case.arms
    c.in-Case.last c.as_slice-in-Case.result.now c.as_slice-in-Case-2.result.now
    c.args.wires.now.items c.add_wire-in-Case.new.wires.items c.add_wire-in-Case-2.new.wires.items c.add_wire-in-Case-3.new.wires.items
    c.add_wire-in-Case-4.new.wires.items c.add_arms.new.wires.items c.in_ok-next-in-Case.next c.width-tag-in-Case.result c.width_of-width.result c.width-width.result
    c.in-Case.is c.as_slice-in-Case.ensures.value c.as_slice-in-Case-2.ensures.value c.width-tag-in-Case.ensures
    c.in_ok-add_wire-in-Case.ensures c.in_ok-add_wire-in-Case-2.ensures c.in_ok-add_wire-in-Case-3.ensures c.width_of-width.ensures c.in_ok-add_wire-in-Case-4.ensures
    (c.width-width.ensures ∙ ap (λ m. seat_width (m + 1)) (c.len.ensures ∙ sym c.as_slice-in-Case.ensures.len))
    c.in_ok-next-in-Case.ensures.wires c.in_ok-next-in-Case.ensures.next)
    c.add_block-in-Case.ensures.wires

pub add_command-returns-in_ok-next-in-Case-clause-next :
    goal.add_command-returns-in_ok-next-in-Case-clause-next
add_command-returns-in_ok-next-in-Case-clause-next t c =
    let n = entities_in c.args.setting.now in
    let e = case_count n c.args.command.now c.in-Case.hang c.in-Case.number c.in-Case.arms c.in-Case.last c.in-Case.is in
    let f = ap arm_wires c.as_slice-in-Case.ensures.value in
    let g = ap (λ cs. wires_block (block_of n cs)) c.as_slice-in-Case-2.ensures.value in
    let all : c.in_ok-next-in-Case.next + wires_block (block_of n c.as_slice-in-Case-2.result.now) ≡ c.args.k
    + wires (command_of n c.args.command.now) = omega (arith, e, f, g, c.in_ok-next-in-Case.ensures.next) in
    subst (λ m. IfOk c.add_block-in-Case.result (λ next. next ≡ m)) all c.add_block-in-Case.ensures.next
