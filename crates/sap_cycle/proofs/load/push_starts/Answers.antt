use Rattle.sap_lemmas.proofs.Common.{◌++◌, ◌∙◌, map, ap, refl, take_all}
use Rattle.sap_net.specs.declared.parts.Register.{Register}
use Rattle.sap_cycle.proofs.Learned.{pushed}
use Rattle.sap_cycle.proofs.load.push_starts.Goals as goal

pub loop-register-preserved : goal.loop-register-preserved
loop-register-preserved c =
    pushed (λ (r : Register). r.start) c.args.numbers.now.items c.loop-register.numbers.items _ c.args.registers.now c.loop-register.register-index c.register-item.result _
    c.loop-register-test.true c.register-item.is c.loop-register.invariant c.in_ok-push.ensures.items refl

pub returns : goal.returns
returns c =
    c.loop-register.invariant
    ∙ ap (λ registers. c.args.numbers.now.items ++ map (λ (r : Register). r.start) registers)
    (take_all c.loop-register.register-index c.args.registers.now c.loop-register-test.false)
