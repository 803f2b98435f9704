use Rattle.sap_lemmas.proofs.Common.{◌++◌, ◌∙◌, ℕ, map, ap, ap₂, sym, subst, take_all}
use Rattle.sap_cycle.specs.declared.steps.Part.{Part}
use Rattle.sap_cycle.specs.declared.steps.Slot.{Slot}
use Rattle.sap_cycle.specs.Known.{IsKnownOperand, part_found}
use Rattle.sap_cycle.proofs.Learned.{all_get_or, pushed}
use Rattle.sap_cycle.proofs.known.push_parts.Goals as goal

pub slot_of-slot-requires : goal.slot_of-slot-requires
slot_of-slot-requires c =
    let known = c.args.known.now in
    let item = c.operand-item.result in
    subst (IsKnownOperand known) (sym c.operand-item.is)
    (all_get_or (IsKnownOperand known) c.args.operands.now c.loop-operand.operand-index item c.requires c.loop-operand-test.true)

pub operand_width-width-requires : goal.operand_width-width-requires
operand_width-width-requires c =
    let known = c.args.known.now in
    let item = c.operand-item.result in
    subst (IsKnownOperand known) (sym c.operand-item.is)
    (all_get_or (IsKnownOperand known) c.args.operands.now c.loop-operand.operand-index item c.requires c.loop-operand-test.true)

pub loop-operand-preserved : goal.loop-operand-preserved
loop-operand-preserved c =
    let part : Slot → ℕ → Part = λ slot width. record { slot = slot; width = width } in
    pushed (part_found c.args.known.now) c.args.parts.now.items c.loop-operand.parts.items _ c.args.operands.now c.loop-operand.operand-index c.operand-item.result _
    c.loop-operand-test.true c.operand-item.is c.loop-operand.invariant c.in_ok-push.ensures.items (ap₂ part c.slot_of-slot.ensures c.operand_width-width.ensures)

pub returns : goal.returns
returns c =
    c.loop-operand.invariant
    ∙ ap (λ operands. c.args.parts.now.items ++ map (part_found c.args.known.now) operands) (take_all c.loop-operand.operand-index c.args.operands.now c.loop-operand-test.false)
