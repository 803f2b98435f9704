use Rattle.sap_wave.proofs.Cuts.{cut_there, not_there}
use Rattle.sap_wave.proofs.pieces.cut_at.Goals as goal

pub returns-in-None-clause-none : goal.returns-in-None-clause-none
returns-in-None-clause-none c = not_there c.args.mark c.args.text.now c.in-None.ensures

pub returns-in-Some-clause-some : goal.returns-in-Some-clause-some
returns-in-Some-clause-some c = cut_there c.args.mark c.args.text.now c.in-Some.at c.in-Some.ensures
