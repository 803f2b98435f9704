use Rattle.std.proofs.Common.{◌≡◌, ℕ, subst, arith}
use Rattle.sap_cpu.specs.Views.{IsAfter, word_at}
use Rattle.sap_cpu.proofs.text.run.Goals as goal

pub loop-init : goal.loop-init
loop-init c = c.new-cpu.ensures

pub loop-preserved : goal.loop-preserved
loop-preserved c = c.slice.ensures (word_at c.args.a.now) (word_at c.args.b.now) c.loop.counter c.loop.invariant

pub returns : goal.returns
returns c =
    let most = c.loop.auto.counter-end in
    let least = c.loop-test.false in
    let all : c.loop.counter ≡ c.args.slices = omega arith in
    subst (λ (n : ℕ). IsAfter (word_at c.args.a.now) (word_at c.args.b.now) n c.loop.cpu) all c.loop.invariant
