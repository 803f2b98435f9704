use Rattle.sap_lemmas.proofs.Common.{get_or, sym, ap, ◌∙◌, arith, rules, take_all}
use Rattle.sap_sim.proofs.Lists.{written_more}
use Rattle.sap_wave_rows.specs.Places.{numbers_at}
use Rattle.sap_wave_rows.proofs.rows.take_numbers.Goals as goal

pub loop-k-preserved : goal.loop-k-preserved
loop-k-preserved c =
    written_more (λ j. get_or c.args.numbers.now j 0) c.args.places.now c.loop-k.seen c.loop-k.k 0 c.unwrap_or.result
    c.loop-k-test.true (omega (arith, c.loop-k.auto.seen, c.requires, c.loop-k-test.true)) (search rules) c.loop-k.invariant

pub returns : goal.returns
returns c =
    sym (take_all c.loop-k.k c.loop-k.seen (omega (arith, c.loop-k.auto.seen, c.requires, c.loop-k-test.false))) ∙ c.loop-k.invariant
    ∙ ap (numbers_at c.args.numbers.now) (take_all c.loop-k.k c.args.places.now (omega (arith, c.loop-k-test.false)))
