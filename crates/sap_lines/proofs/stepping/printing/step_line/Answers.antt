use Rattle.sap_lemmas.proofs.Common.{rules, ◌≡◌, ◌<◌, refl, sym, ◌∙◌, subst, arith, append-nil, on_err_weaker, on_ok_weaker}
use Rattle.sap_desk.proofs.Steps.{on_err}
use Rattle.sap_stream.specs.Spans.{cycles_in}
use Rattle.sap_lines.proofs.stepping.Cycles.{all_shown, behind_more, cut_last, cut_more, none_shown, shown_more, shown_then}
use Rattle.sap_lines.proofs.stepping.printing.step_line.Goals as goal

pub loop-init : goal.loop-init
loop-init g c = record {
  cycle = omega arith;
  behind = λ cycles h. subst (g.S.Steps.behind c.args.steps.now) (sym (append-nil cycles)) h;
  shown = none_shown (g.S.Steps.behind c.args.steps.now) (g.S.Steps.shows c.args.steps.now) c.args.cycle.now c.args.lines.now.line.inputs
      c.args.waiting.now.bytes (g.D.Desk.told c.args.desk.now);
  same_levels = refl;
  same_fields = refl;
  same_room = refl;
  same_shows = λ cycles text h. h;
  room = omega arith;
  few = c.requires.few;
  large = omega arith;
  given = refl;
  faults = refl;
  lost = refl;
  sure = λ s. s;
}

pub loop-preserved : goal.loop-preserved
loop-preserved g c =
    let inv = c.loop.invariant in
    let x = c.args.lines.now.line.inputs in
    let step = c.in_ok-step_once.ensures in
    record {
      cycle = omega arith;
      behind = behind_more (g.S.Steps.behind c.args.steps.now) (g.S.Steps.behind c.loop.steps) (g.S.Steps.behind c.step_once.new.steps) x
          c.inputs.result.now c.loop.counter c.inputs.ensures inv.behind step.behind;
      shown = shown_more (g.S.Steps.behind c.args.steps.now) (g.S.Steps.behind c.loop.steps) (g.S.Steps.shows c.args.steps.now)
          (g.S.Steps.shows c.loop.steps) (g.S.Steps.shows c.step_once.new.steps)
          c.args.cycle.now c.loop.cycle c.loop.counter x c.inputs.result.now c.args.waiting.now.bytes c.loop.waiting.bytes step.shown.text
          (g.D.Desk.told c.args.desk.now) (g.D.Desk.told c.loop.desk) (g.D.Desk.told c.step_once.new.desk) c.inputs.ensures
          inv.behind inv.cycle (step.shown.adds c.loop.cycle refl) inv.shown
          (λ cycles text h. inv.same_shows cycles text (step.same_shows cycles text h)) c.step_once.new.waiting.bytes step.shown.holds;
      same_levels = step.same_levels ∙ inv.same_levels;
      same_fields = step.same_fields ∙ inv.same_fields;
      same_room = step.same_room ∙ inv.same_room;
      same_shows = λ cycles text h. inv.same_shows cycles text (step.same_shows cycles text h);
      room = search rules;
      few = step.few;
      large = search rules;
      given = step.given ∙ inv.given;
      faults = step.counts.ok ∙ inv.faults;
      lost = step.lost ∙ inv.lost;
      sure = λ s. step.sure (inv.sure s);
    }

pub returns-in_err-step_once-clause-cut : goal.returns-in_err-step_once-clause-cut
returns-in_err-step_once-clause-cut g c =
    let inv = c.loop.invariant in
    let line = c.args.lines.now.line in
    let step = c.in_err-step_once.ensures in
    let below : c.loop.counter < line.count = omega (arith, c.count-end.ensures.number, c.loop-test.true) in
    on_err c.from_residual.result
    (cut_more (g.S.Steps.behind c.args.steps.now) (g.S.Steps.behind c.loop.steps) (g.S.Steps.shows c.args.steps.now)
    (g.S.Steps.shows c.loop.steps) (g.S.Steps.shows c.step_once.new.steps)
    c.args.cycle.now c.loop.cycle c.loop.counter line.inputs c.inputs.result.now c.args.waiting.now.bytes c.loop.waiting.bytes step.cut.text
    (g.D.Desk.told c.args.desk.now) (g.D.Desk.told c.loop.desk) (g.D.Desk.told c.step_once.new.desk) c.inputs.ensures inv.behind inv.cycle
    (step.cut.adds c.loop.cycle refl) inv.shown line.count below step.cut.holds)

pub returns-clause-shown : goal.returns-clause-shown
returns-clause-shown g c =
    let line = c.args.lines.now.line in
    let all : c.loop.counter ≡ line.count = omega (arith, c.count-end.ensures.number, c.loop-test.false, c.loop.auto.counter-end) in
    on_ok_weaker c.flush_unless_held.result
    (shown_then (g.S.Steps.behind c.args.steps.now) (g.S.Steps.shows c.args.steps.now) (g.S.Steps.shows c.loop.steps) c.args.cycle.now c.args.waiting.now.bytes c.loop.waiting.bytes
    (g.D.Desk.told c.args.desk.now) (g.D.Desk.told c.loop.desk) (g.D.Desk.told c.flush_unless_held.new.desk) (cycles_in line) c.flush_unless_held.new.waiting.bytes
    (all_shown _ _ _ _ c.loop.counter line _ _ _ _ all c.loop.invariant.shown))
    c.flush_unless_held.ensures.written

pub returns-clause-cut : goal.returns-clause-cut
returns-clause-cut g c =
    let line = c.args.lines.now.line in
    let all : c.loop.counter ≡ line.count = omega (arith, c.count-end.ensures.number, c.loop-test.false, c.loop.auto.counter-end) in
    on_err_weaker c.flush_unless_held.result
    (cut_last (g.S.Steps.behind c.args.steps.now) (g.S.Steps.shows c.args.steps.now) (g.S.Steps.shows c.loop.steps) c.args.cycle.now c.args.waiting.now.bytes c.loop.waiting.bytes
    (g.D.Desk.told c.args.desk.now) (g.D.Desk.told c.loop.desk) (g.D.Desk.told c.flush_unless_held.new.desk) line
    (all_shown _ _ _ _ c.loop.counter line _ _ _ _ all c.loop.invariant.shown))
    c.flush_unless_held.ensures.failed
