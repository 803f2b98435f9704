use Rattle.sap_lemmas.proofs.Common.{[], ◌∙◌, map, ap, sym, subst, take_all}
use Rattle.sap_net.specs.declared.parts.Register.{Register}
use Rattle.sap_cycle.specs.Known.{IsKnownOperand, slot_found}
use Rattle.sap_cycle.proofs.Learned.{all_get_or, pushed}
use Rattle.sap_cycle.proofs.load.next_slots.Goals as goal

pub slot_of-requires : goal.slot_of-requires
slot_of-requires c =
    let known = c.args.known.now in
    let item = c.register-item.result in
    subst (λ (r : Register). IsKnownOperand known r.next) (sym c.register-item.is)
    (all_get_or (λ (r : Register). IsKnownOperand known r.next) c.args.registers.now c.loop-register.register-index item c.requires c.loop-register-test.true)

pub loop-register-preserved : goal.loop-register-preserved
loop-register-preserved c =
    pushed (λ (r : Register). slot_found c.args.known.now r.next) [] c.loop-register.slots.items _ c.args.registers.now c.loop-register.register-index c.register-item.result _
    c.loop-register-test.true c.register-item.is c.loop-register.invariant c.in_ok-push.ensures.items c.slot_of.ensures

pub returns : goal.returns
returns c =
    c.loop-register.invariant
    ∙ ap (map (λ (r : Register). slot_found c.args.known.now r.next)) (take_all c.loop-register.register-index c.args.registers.now c.loop-register-test.false)
