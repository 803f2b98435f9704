use Rattle.std.proofs.Common.{take}
use Rattle.sap_stim.proofs.Placed.{one_digit, one_pair}
use Rattle.sap_stim.proofs.flat.put_below_100.Goals as goal

pub returns-then-number-lt10-clause-text : goal.returns-then-number-lt10-clause-text
returns-then-number-lt10-clause-text c = one_digit c.args.number _ (take c.args.at c.args.bytes.now) _ c.if-number-lt10.true c.put_digit.ensures.text

pub returns-clause-text : goal.returns-clause-text
returns-clause-text c = one_pair c.args.number _ (take c.args.at c.args.bytes.now) _ c.if-number-lt10.false c.requires.number c.put_pair.ensures.text
