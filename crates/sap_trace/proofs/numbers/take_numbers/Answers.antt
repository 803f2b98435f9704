use Rattle.sap_lemmas.proofs.Common.{◌≤◌, ◌*◌, length, sym, ap, ◌∙◌, arith, take_all}
use Rattle.sap_lattice.specs.Prelude.{order_of, code_of}
use Rattle.sap_meaning.specs.Cycle.{Tagged}
use Rattle.sap_trace.specs.Given.{given}
use Rattle.sap_trace.proofs.Given.{given_written, same_item}
use Rattle.sap_trace.proofs.numbers.take_numbers.Goals as goal

pub loop-k-preserved : goal.loop-k-preserved
loop-k-preserved c =
    let xs = c.args.line.now in
    let k = c.loop-k.k in
    let d = c.index-line-k.result in
    let e = c.index-line-k-in-loop-k.result in
    given_written c.args.lattice.now xs k d c.loop-k.numbers c.number.result c.code.result c.loop-k-test.true
    (omega (arith, c.loop-k.auto.numbers, c.requires)) (c.number.ensures ∙ ap (λ (x : Tagged). x.number) c.index-line-k.is)
    (c.code.ensures ∙ ap (code_of (order_of c.args.lattice.now)) (c.level.ensures
    ∙ ap (λ (x : Tagged). x.level) (c.index-line-k-in-loop-k.is ∙ same_item xs k e d c.loop-k-test.true))) c.loop-k.invariant

pub returns : goal.returns
returns c =
    let n : length c.loop-k.numbers ≤ 2 * c.loop-k.k = omega (arith, c.loop-k.auto.numbers, c.requires, c.loop-k-test.false) in
    sym (take_all (2 * c.loop-k.k) c.loop-k.numbers n) ∙ c.loop-k.invariant
    ∙ ap (given c.args.lattice.now) (take_all c.loop-k.k c.args.line.now (omega (arith, c.loop-k-test.false)))
