use Rattle.sap_lemmas.proofs.Common.{◌<◌, ℕ, length, refl, sym, ap, ◌∙◌, subst, arith, take_all}
use Rattle.sap_cycle.specs.Running.{seen, value_names}
use Rattle.sap_sim.specs.Layout.{seen_at}
use Rattle.sap_sim.proofs.Lists.{written_more}
use Rattle.sap_sim.proofs.Seen.{name_there, is_there}
use Rattle.sap_sim.proofs.steps.take_seen.Goals as goal

pub loop-k-init : goal.loop-k-init
loop-k-init c = λ cycle shows. refl

pub loop-k-preserved : goal.loop-k-preserved
loop-k-preserved c = λ cycle shows.
    let n = c.args.runner.now.net in
    let k = c.loop-k.k in
    let p = c.index-places-k.result in
    let f : ℕ → ℕ = λ j. (seen n cycle).value (name_there n j) in
    let i : c.index-places-k.result < length (value_names c.args.runner.now.net) =
    subst (λ (j : ℕ). j < length (value_names c.args.runner.now.net)) (sym c.index-places-k.is) (c.requires.places k p c.loop-k-test.true) in
    written_more f c.args.places.now c.loop-k.numbers k p c.at.result c.loop-k-test.true (omega (arith, c.loop-k.auto.numbers, c.requires.count, c.loop-k-test.true))
    (c.at.ensures cycle (name_there n p) shows (is_there n p i) ∙ ap f c.index-places-k.is) (c.loop-k.invariant cycle shows)

pub returns-clause-seen : goal.returns-clause-seen
returns-clause-seen c = λ cycle shows.
    let n = c.args.runner.now.net in
    sym (take_all c.loop-k.k c.loop-k.numbers (omega (arith, c.loop-k.auto.numbers, c.requires.count, c.loop-k-test.false))) ∙ c.loop-k.invariant cycle shows
    ∙ ap (seen_at n (seen n cycle)) (take_all c.loop-k.k c.args.places.now (omega (arith, c.loop-k-test.false)))
