use Rattle.sap_lemmas.proofs.Common.{◌++◌, map, subst, take_all}
use Rattle.sap_cycle.specs.Known.{Knows}
use Rattle.sap_cycle.proofs.Learned.{learned}
use Rattle.sap_cycle.proofs.known.learn_registers.Goals as goal

pub loop-register-preserved : goal.loop-register-preserved
loop-register-preserved c = λ f ms names knows all.
    learned (λ x. x.name) (λ x. x.width) f ms names c.args.registers.now c.loop-register.register-index c.register-item.result c.loop-register.known c.learn.new.known
    c.loop-register-test.true c.register-item.is (c.loop-register.invariant f ms names knows all) all c.in_ok-learn.ensures

pub returns : goal.returns
returns c = λ f ms names knows all.
    let e = take_all c.loop-register.register-index c.args.registers.now c.loop-register-test.false in
    subst (λ l. Knows f ms (names ++ map (λ x. x.name) l) c.loop-register.known) e (c.loop-register.invariant f ms names knows all)
