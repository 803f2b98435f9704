use Rattle.std.proofs.Common.{sym, ◌∙◌}
use Rattle.sap_stream.specs.Spans.{cycles_of}
use Rattle.sap_wave_run.specs.Ahead.{cycles_ahead}
use Rattle.sap_wave_run.proofs.Ahead.{first_of_some, none_ahead, some_left}
use Rattle.sap_wave_run.proofs.cycles.Cycles.next.Goals as goal

pub returns-then-self-eq0 : goal.returns-then-self-eq0
returns-then-self-eq0 c = none_ahead (cycles_ahead c.args.self.now) c.take_up.new.self.left c.take_up.ensures.some c.if-self-eq0.true

pub returns : goal.returns
returns c =
    let taken = c.take_up.new.self in
    sym c.take_up.ensures.same ∙ first_of_some taken.left taken.inputs.now (cycles_of taken.behind.now) (some_left taken.left c.if-self-eq0.false)
