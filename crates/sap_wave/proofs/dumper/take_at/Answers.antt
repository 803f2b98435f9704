use Rattle.sap_lemmas.proofs.Common.{[], map, get_or, refl, sym, ap, ◌∙◌, arith, take_all, slice_get_within}
use Rattle.sap_cycle.specs.Running.{seen, value_names}
use Rattle.sap_wave.specs.declared.variable.Variable.{Variable}
use Rattle.sap_wave.specs.Runs.{variables_of}
use Rattle.sap_wave.proofs.Placed.{stand_count, stands_there}
use Rattle.sap_wave.proofs.Seen.{written_more}
use Rattle.sap_wave.proofs.dumper.take_at.Goals as goal

nothing : Variable
nothing = record { name = []; width = 0 }

pub loop-k-init : goal.loop-k-init
loop-k-init c = λ cycle shows. refl

pub at-requires : goal.at-requires
at-requires c =
    let n = c.args.runner.now.net in
    let xs = variables_of n in
    slice_get_within (value_names n) c.index-places-k.result (get_or xs c.loop-k.k nothing).name
    (stands_there n xs c.args.places.now c.loop-k.k c.index-places-k.result nothing c.requires.places c.loop-k-test.true c.index-places-k.is)

pub loop-k-preserved : goal.loop-k-preserved
loop-k-preserved c = λ cycle shows.
    let n = c.args.runner.now.net in
    let xs = variables_of n in
    let k = c.loop-k.k in
    let one_each = stand_count n xs c.args.places.now c.requires.places in
    let there = stands_there n xs c.args.places.now k c.index-places-k.result nothing c.requires.places c.loop-k-test.true c.index-places-k.is in
    written_more (λ (x : Variable). (seen n cycle).value x.name) xs c.loop-k.numbers k nothing c.at.result (omega (arith, one_each, c.loop-k-test.true))
    (omega (arith, c.loop-k.auto.numbers, c.requires.count, c.loop-k-test.true)) (c.at.ensures cycle (get_or xs k nothing).name shows there) (c.loop-k.invariant cycle shows)

pub returns-clause-seen : goal.returns-clause-seen
returns-clause-seen c = λ cycle shows.
    let n = c.args.runner.now.net in
    let xs = variables_of n in
    let f = λ (x : Variable). (seen n cycle).value x.name in
    let one_each = stand_count n xs c.args.places.now c.requires.places in
    sym (take_all c.loop-k.k c.loop-k.numbers (omega (arith, c.loop-k.auto.numbers, c.requires.count, c.loop-k-test.false)))
    ∙ c.loop-k.invariant cycle shows
    ∙ ap (map f) (take_all c.loop-k.k xs (omega (arith, one_each, c.loop-k-test.false)))
