use Rattle.std.proofs.Common.{◌≡◌, ◌+◌, codes, arith}
use Rattle.sap_stim.proofs.Placed.{turned}
use Rattle.sap_stim.proofs.head.RowHead.turn_to.Goals as goal

pub invariant_of-self : goal.invariant_of-self
invariant_of-self c =
    let next : c.args.cycle ≡ c.self.inside.cycle + 1 = omega (arith, c.if-self-cycle.true, c.if-cycle-self-eq1.true) in (
      omega (arith, c.self.invariant.0, c.if-self-lt9.true, next),
      turned c.self.inside.front c.self.inside.cycle c.args.cycle c.self.inside.digit (codes "cycle ") c.self.invariant.0 c.if-self-lt9.true
          next c.ranges.cycle.fits c.self.invariant.1,
    )
