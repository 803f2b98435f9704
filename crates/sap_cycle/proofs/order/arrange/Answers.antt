use Rattle.std.proofs.Common.{map}
use Rattle.sap_cycle.specs.Instructions.{step_of_instruction, placed_step}
use Rattle.sap_cycle.proofs.Arranging.{arranging_more, arranged_all}
use Rattle.sap_cycle.proofs.order.arrange.Goals as goal

pub loop-number-preserved : goal.loop-number-preserved
loop-number-preserved c =
    let others = c.args.others.now in
    let steps = map (step_of_instruction others) c.args.steps.now in
    let l = c.loop-number in
    arranging_more others c.args.base c.args.parts.now steps l.marks c.mark.new.marks l.placed.items c.push.new.self.items l.invariant
    c.in-Some.next c.in-Some.ensures.own c.in-Some.ensures.reads c.mark.ensures c.in_ok-push-in-Some.ensures.items

pub returns-then-all_marked : goal.returns-then-all_marked
returns-then-all_marked c =
    let others = c.args.others.now in
    let steps = map (step_of_instruction others) c.args.steps.now in
    arranged_all c.args.base c.args.parts.now steps c.loop-number.marks (map (placed_step others) c.loop-number.placed.items) c.loop-number.invariant
    (c.all_marked.ensures c.if-all_marked.true)
