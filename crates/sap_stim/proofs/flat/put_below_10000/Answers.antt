use Rattle.std.proofs.Common.{refl, take}
use Rattle.sap_stim.proofs.Placed.{then_pair}
use Rattle.sap_stim.proofs.flat.put_below_10000.Goals as goal

pub returns-clause-text : goal.returns-clause-text
returns-clause-text c =
    then_pair c.args.number _ _ _ _ (take c.args.at c.args.bytes.now) _ _ c.if-number-lt100.false c.ranges.number.fits refl refl
    c.put_below_100-end.ensures.text c.put_pair.ensures.text
