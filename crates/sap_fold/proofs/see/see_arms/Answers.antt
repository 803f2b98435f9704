use Rattle.sap_net.specs.declared.parts.Right.TheVariants.{Choose}
use Rattle.sap_share.specs.Sets.{holds}
use Rattle.sap_fold.proofs.Becoming.{arms_become, becomes_both}
use Rattle.sap_fold.proofs.see.see_arms.Goals as goal

pub returns-clause-becomes : goal.returns-clause-becomes
returns-clause-becomes c =
    let f = holds c.args.taken.now in
    let s = c.args.wires.now in
    let k = c.see_condition.new.wires in
    let m = c.arm.new.wires in
    let t = c.arm-2.new.wires in
    let u = c.args.width in
    let x = c.args.choice in
    let y = c.in_ok-choice.choice in
    let p = c.in_ok-when_one.when_one in
    let q = c.in_ok-when_zero.when_zero in
    becomes_both f s.list.items s.next u (Choose x.condition x.when_one x.when_zero) (Choose y.condition y.when_one y.when_zero) (Choose y.condition p q)
    k.list.items k.next t.list.items t.next c.in_ok-choice.ensures.becomes
    (arms_become f k.list.items k.next u y.condition y.when_one y.when_zero p q m.list.items m.next t.list.items t.next c.in_ok-when_one.ensures.arm c.in_ok-when_zero.ensures.arm)
