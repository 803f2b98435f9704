use Rattle.sap_lemmas.proofs.Common.{map, sym, ap, ◌∙◌, arith, take_all}
use Rattle.sap_sim.specs.Layout.{number_from}
use Rattle.sap_sim.proofs.Lists.{written_more}
use Rattle.sap_sim.proofs.steps.take_numbers.Goals as goal

pub loop-k-preserved : goal.loop-k-preserved
loop-k-preserved c =
    written_more (number_from c.args.lattice.now c.args.line.now) c.args.sources.now c.loop-k.numbers c.loop-k.k _ c.number.result
    c.loop-k-test.true (omega (arith, c.loop-k.auto.numbers, c.requires.count, c.loop-k-test.true)) c.number.ensures c.loop-k.invariant

pub returns : goal.returns
returns c =
    sym (take_all c.loop-k.k c.loop-k.numbers (omega (arith, c.loop-k.auto.numbers, c.requires.count, c.loop-k-test.false))) ∙ c.loop-k.invariant
    ∙ ap (map (number_from c.args.lattice.now c.args.line.now)) (take_all c.loop-k.k c.args.sources.now (omega (arith, c.loop-k-test.false)))
