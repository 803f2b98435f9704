use Rattle.std.proofs.Common.{refl}
use Rattle.sap_lattice.proofs.PairLemmas.{tells_none, keeps_pairs, tells_order}
use Rattle.sap_lattice.proofs.pairs.order_of.Goals as goal

pub relate_pairs-requires-clause-equality : goal.relate_pairs-requires-clause-equality
relate_pairs-requires-clause-equality c =
    tells_none c.args.names.now c.args.pairs.now c.in_ok-order.order _ refl c.in_ok-order.ensures.count c.in_ok-order.ensures.itself

pub returns-clause-known : goal.returns-clause-known
returns-clause-known c = keeps_pairs c.args.names.now c.args.pairs.now c.relate_pairs.new.order c.requires c.in_ok-relate_pairs.ensures.all

pub returns-clause-order : goal.returns-clause-order
returns-clause-order c =
    let closed = c.close.ensures in
    tells_order c.args.names.now c.args.pairs.now c.requires c.relate_pairs.new.order c.close.new.self c.in_ok-relate_pairs.ensures.all
    closed.kept closed.only closed.transitive closed.count
