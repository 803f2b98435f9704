use Rattle.sap_stim.proofs.Counts.{without_count, with_count}
use Rattle.sap_stim.proofs.count.read_count.Goals as goal

pub returns-then-not-is_starred-clause-number : goal.returns-then-not-is_starred-clause-number
returns-then-not-is_starred-clause-number c = without_count c.args.piece.now c.is_starred.result c.is_starred.ensures c.if-not-is_starred.true

pub returns-clause-number : goal.returns-clause-number
returns-clause-number c = with_count c.args.piece.now c.is_starred.result c.read_digits.result c.is_starred.ensures c.if-not-is_starred.false c.read_digits.ensures
