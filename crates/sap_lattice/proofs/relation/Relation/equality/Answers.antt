use Rattle.std.proofs.Common.{arith}
use Rattle.sap_lattice.proofs.RowLemmas.{tells_equal}
use Rattle.sap_lattice.proofs.relation.Relation.equality.Goals as goal

pub returns-clause-itself : goal.returns-clause-itself
returns-clause-itself c =
    tells_equal c.loop-place.rows.items c.args.count (omega arith) (λ x h. c.loop-place.invariant.single x (omega arith))
