use Rattle.std.proofs.Common.{sym, ◌∙◌}
use Rattle.sap_wave.proofs.Parted.{front_missing, front_there}
use Rattle.sap_wave.proofs.parts.behind.Goals as goal

pub returns-then-starts_with-clause-some : goal.returns-then-starts_with-clause-some
returns-then-starts_with-clause-some c = front_there c.args.text.now c.args.front.now (sym c.starts_with.ensures.value ∙ c.if-starts_with.true)

pub returns-else-starts_with-clause-none : goal.returns-else-starts_with-clause-none
returns-else-starts_with-clause-none c = λ rest e. front_missing c.args.text.now c.args.front.now rest (sym c.starts_with.ensures.value ∙ c.if-starts_with.false) e
