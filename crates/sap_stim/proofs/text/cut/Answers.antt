use Rattle.sap_stim.proofs.Pieces.{cut_before, cut_behind, uncut_before, uncut_behind}
use Rattle.sap_stim.proofs.text.cut.Goals as goal

pub returns-in-Some-clause-before : goal.returns-in-Some-clause-before
returns-in-Some-clause-before c = cut_before c.args.mark c.args.text.now c.in-Some.at c.in-Some.ensures

pub returns-in-Some-clause-behind : goal.returns-in-Some-clause-behind
returns-in-Some-clause-behind c = cut_behind c.args.mark c.args.text.now c.in-Some.at c.in-Some.ensures

pub returns-in-None-clause-before : goal.returns-in-None-clause-before
returns-in-None-clause-before c = uncut_before c.args.mark c.args.text.now c.in-None.ensures

pub returns-in-None-clause-behind : goal.returns-in-None-clause-behind
returns-in-None-clause-behind c = uncut_behind c.args.mark c.args.text.now c.in-None.ensures
