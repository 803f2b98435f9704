use Rattle.sap_wave.proofs.Quads.{four_set, quad_at}
use Rattle.sap_wave.proofs.digits.write_four.Goals as goal

pub returns : goal.returns
returns c =
    let q = quad_at c.args.four c.requires.small in
    rw (q.first, q.second, q.third, q.fourth) (four_set c.args.start c.args.bytes.now _ _ _ _ c.requires.within)
