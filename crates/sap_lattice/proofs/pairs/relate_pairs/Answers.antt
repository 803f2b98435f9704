use Rattle.std.proofs.Common.{refl}
use Rattle.std.proofs.lemmas.Option.{slice_get_read}
use Rattle.sap_lattice.proofs.PairLemmas.{first_bad_pair, tells_more}
use Rattle.sap_lattice.proofs.pairs.relate_pairs.Goals as goal

pub returns-in-None-clause-broken : goal.returns-in-None-clause-broken
returns-in-None-clause-broken c = λ ne.
    let first = first_bad_pair c.args.names.now c.args.pairs.now c.loop-k.order c.loop-k.k c.index-pairs-k.result c.loop-k.invariant
    (slice_get_read c.args.pairs.now _ c.loop-k.k c.index-pairs-k.result refl c.loop-k-test.true c.index-pairs-k.is)
    c.in-None.ensures in
    (c.requires.names, (c.loop-k.k, first, refl))

pub loop-k-preserved : goal.loop-k-preserved
loop-k-preserved c =
    tells_more c.args.names.now c.args.pairs.now c.loop-k.order c.relate.new.self c.loop-k.k c.index-pairs-k.result c.in-Some.lower c.in-Some.upper c.loop-k.invariant
    (slice_get_read c.args.pairs.now _ c.loop-k.k c.index-pairs-k.result refl c.loop-k-test.true c.index-pairs-k.is)
    c.in-Some.ensures c.relate.ensures.count c.relate.ensures.both
