use Rattle.sap_lemmas.proofs.Common.{◌≡◌, ℕ, List, subst, option_map}
use Rattle.sap_desk.specs.Whole.{CutOutput}
use Rattle.sap_desk.specs.Desk.{added}
use Rattle.sap_lines.proofs.stepping.Last.{whole_cut, whole_written}
use Rattle.sap_lines.proofs.stepping.printing.follow.Goals as goal

pub returns-in-Err-write_text-clause-broken : goal.returns-in-Err-write_text-clause-broken
returns-in-Err-write_text-clause-broken g c =
    let failed : CutOutput c.step_on.new.waiting.bytes (g.D.Desk.told c.step_on.new.desk) (g.D.Desk.told c.write_text.new.desk)
    = subst (λ (b : List ℕ). CutOutput b (g.D.Desk.told c.step_on.new.desk) (g.D.Desk.told c.write_text.new.desk)) c.bytes.ensures c.in-Err-write_text.ensures.failed in
    whole_cut (g.S.Steps.shows c.args.steps.now) (g.S.Steps.levels c.args.steps.now) (g.S.Steps.fields c.args.steps.now) c.args.channel c.in-Ok.fault c.step_on.new.waiting.bytes
    (g.D.Desk.told c.args.desk.now) (g.D.Desk.told c.step_on.new.desk) (g.D.Desk.told c.write_text.new.desk) failed c.in-Ok.ensures.done

pub returns-in-Ok-write_text-clause-done : goal.returns-in-Ok-write_text-clause-done
returns-in-Ok-write_text-clause-done g c =
    whole_written (g.S.Steps.shows c.args.steps.now) (g.S.Steps.levels c.args.steps.now) (g.S.Steps.fields c.args.steps.now) c.args.channel
    c.in-Ok.fault c.step_on.new.waiting.bytes
    (g.D.Desk.told c.args.desk.now) (g.D.Desk.told c.step_on.new.desk) (g.D.Desk.told c.write_text.new.desk)
    (subst (λ (b : List ℕ). g.D.Desk.told c.write_text.new.desk ≡ option_map (added 1 b) (g.D.Desk.told c.step_on.new.desk)) c.bytes.ensures
    c.in-Ok-write_text.ensures.told) c.in-Ok.ensures.done
