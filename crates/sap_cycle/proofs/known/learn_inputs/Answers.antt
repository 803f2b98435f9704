use Rattle.sap_lemmas.proofs.Common.{◌++◌, map, subst, take_all}
use Rattle.sap_cycle.specs.Known.{Knows}
use Rattle.sap_cycle.proofs.Learned.{learned}
use Rattle.sap_cycle.proofs.known.learn_inputs.Goals as goal

pub loop-input-preserved : goal.loop-input-preserved
loop-input-preserved c = λ f ms names knows all.
    learned (λ x. x.name) (λ x. x.width) f ms names c.args.inputs.now c.loop-input.input-index c.input-item.result c.loop-input.known c.learn.new.known
    c.loop-input-test.true c.input-item.is (c.loop-input.invariant f ms names knows all) all c.in_ok-learn.ensures

pub returns : goal.returns
returns c = λ f ms names knows all.
    let e = take_all c.loop-input.input-index c.args.inputs.now c.loop-input-test.false in
    subst (λ l. Knows f ms (names ++ map (λ x. x.name) l) c.loop-input.known) e (c.loop-input.invariant f ms names knows all)
