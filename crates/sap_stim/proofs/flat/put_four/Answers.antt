use Rattle.std.proofs.Common.{◌<◌, ◌^◌, ◌/◌, refl, arith}
use Rattle.sap_stim.proofs.Placed.{then_pair}
use Rattle.sap_stim.proofs.flat.put_four.Goals as goal

pub returns-clause-text : goal.returns-clause-text
returns-clause-text c = λ start front.
    let n = c.args.number in
    let big = c.requires.number in
    let small : n < 2 ^ 64 = omega (arith, c.ranges.number.fits) in
    let high = then_pair (n / 100) (n / 10000) _ _ _ start _ _ (omega (arith, big)) (omega (arith, small)) (omega arith)
    (omega (arith, c.from.ensures)) front c.put_pair-end.ensures.text in
    then_pair n (n / 100) _ _ _ start _ _ (omega (arith, big)) small refl (omega (arith, c.from-2.ensures)) high c.put_pair.ensures.text
