use Rattle.std.proofs.Common.{codes, arith}
use Rattle.sap_stim.proofs.Placed.{before_last, before_one}
use Rattle.sap_stim.proofs.head.put_front.Goals as goal

pub returns-then-cycle-lt10 : goal.returns-then-cycle-lt10
returns-then-cycle-lt10 c = before_one c.args.cycle _ (codes "cycle ") c.if-cycle-lt10.true c.ranges.cycle.fits c.in_ok-end.ensures

pub returns : goal.returns
returns c =
    before_last c.put_number.result c.args.cycle c.in_ok-end.end _ _ (codes "cycle ") (omega (arith, c.if-cycle-lt10.false)) c.ranges.cycle.fits
    c.in_ok-end.ensures c.put_number.ensures
