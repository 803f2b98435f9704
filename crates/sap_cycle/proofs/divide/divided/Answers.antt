use Rattle.sap_lemmas.proofs.Common.{slice_index_or, map, ap, ◌∙◌, arith, take_rest}
use Rattle.sap_cycle.specs.Instructions.{placed_step}
use Rattle.sap_cycle.proofs.Divided.{divided_more, divided_all}
use Rattle.sap_cycle.proofs.divide.divided.Goals as goal
use Rattle.sap_cycle.proofs.divide.divided.Goals.{then-start-stop+then-stop-steps+in_ok-run_of+in_ok-push, else-start-stop}

pub loop-end-preserved : goal.loop-end-preserved
loop-end-preserved c =
    let a = c.args in
    let l = c.loop-end in
    let stop = slice_index_or a.ends.now l.end-index 0 in
    elim c.if-start-stop.branch [
      | then-start-stop+then-stop-steps+in_ok-run_of+in_ok-push w ↦
          rw (w.runs-is, w.start-is)
          (divided_more a.steps.now l.start stop l.runs.items w.push.new.self.items w.in_ok-run_of.field-0 l.invariant (omega (arith, w.if-start-stop.true)) w.if-stop-steps.true
          w.in_ok-push.ensures.items w.in_ok-run_of.ensures)
      | else-start-stop w ↦ rw (w.runs-is, w.start-is) l.invariant
    ]

pub returns : goal.returns
returns c =
    divided_all c.args.steps.now c.loop-end.start c.loop-end.runs.items c.push-2.new.self.items c.in_ok-run_of-2.field-0 c.loop-end.invariant
    c.in_ok-push-2.ensures.items (λ others. c.in_ok-run_of-2.ensures {u = tt} others ∙ ap (map (placed_step others)) (take_rest c.args.steps.now c.loop-end.start))
