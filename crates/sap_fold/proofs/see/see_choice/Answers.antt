use Rattle.sap_lemmas.proofs.Common.{Option, subst, IfSome}
use Rattle.sap_bits.specs.declared.Op1.TheVariants.{Not}
use Rattle.sap_net.specs.declared.parts.Operand.{Operand}
use Rattle.sap_net.specs.declared.parts.Right.TheVariants.{One, Choose}
use Rattle.sap_share.specs.Sets.{holds}
use Rattle.sap_fold.specs.Seen.{Defines}
use Rattle.sap_fold.proofs.Becoming.{becomes_equal, becomes_both}
use Rattle.sap_fold.proofs.Sees.{choose_turned}
use Rattle.sap_fold.proofs.see.see_choice.Goals as goal

pub returns-in_ok-turned-in-Some-clause-becomes : goal.returns-in_ok-turned-in-Some-clause-becomes
returns-in_ok-turned-in-Some-clause-becomes c =
    let s = c.args.wires.now in
    let ws = s.list.items in
    let t = c.see_arms.new.wires in
    let u = c.args.width in
    let d = c.in-Some.of in
    let o = c.args.choice in
    let x = Choose o.condition o.when_one o.when_zero in
    let y = Choose d o.when_zero o.when_one in
    let k = subst (λ (m : Option Operand). IfSome m (λ p. Defines ws o.condition (One Not p))) c.in-Some.is (c.in_ok-of.ensures {u = tt}) in
    becomes_both (holds c.args.taken.now) ws s.next u x y c.in_ok-turned-in-Some.turned ws s.next t.list.items t.next
    (becomes_equal (holds c.args.taken.now) ws s.next u x y (choose_turned ws u o.condition d o.when_one o.when_zero k))
    c.in_ok-turned-in-Some.ensures.becomes
