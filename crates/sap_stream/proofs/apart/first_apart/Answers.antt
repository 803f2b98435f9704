use Rattle.std.proofs.Common.{ℕ, arith}
use borrow.Author.Count.{below_more}
use Rattle.sap_lattice.specs.Levels.{order_of}
use Rattle.sap_stream.specs.Apart.{AreAlike, input_at}
use Rattle.sap_stream.proofs.Agreeing.{inputs_agree, first_input}
use Rattle.sap_stream.proofs.Told.{alike_here, apart_here}
use Rattle.sap_stream.proofs.apart.first_apart.Goals as goal

pub loop-i-init : goal.loop-i-init
loop-i-init c = λ k below. absurd (omega arith)

pub returns-then-not-is_alike : goal.returns-then-not-is_alike
returns-then-not-is_alike c =
    let o = order_of c.args.lattice.now in
    first_input o c.args.level c.args.first.now c.args.second.now c.loop-i.i c.requires c.loop-i-test.true c.loop-i.invariant
    (apart_here o c.args.level c.args.first.now c.args.second.now c.loop-i.i c.index-first-i.result c.index-second-i.result c.is_alike.result c.requires c.loop-i-test.true
    c.index-first-i.is c.index-second-i.is c.is_alike.ensures c.if-not-is_alike.true)

pub loop-i-preserved : goal.loop-i-preserved
loop-i-preserved c =
    let o = order_of c.args.lattice.now in
    below_more (λ (k : ℕ). AreAlike (order_of c.args.lattice.now) c.args.level (input_at c.args.first.now k) (input_at c.args.second.now k)) c.loop-i.i c.loop-i.invariant
    (alike_here o c.args.level c.args.first.now c.args.second.now c.loop-i.i c.index-first-i.result c.index-second-i.result c.is_alike.result c.requires c.loop-i-test.true
    c.index-first-i.is c.index-second-i.is c.is_alike.ensures c.if-not-is_alike.false)

pub returns : goal.returns
returns c =
    inputs_agree (order_of c.args.lattice.now) c.args.level c.args.first.now c.args.second.now c.requires (λ k below. c.loop-i.invariant k (omega (arith, c.loop-i-test.false)))
