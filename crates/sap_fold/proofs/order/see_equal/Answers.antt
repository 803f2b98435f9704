use Rattle.sap_lemmas.proofs.Common.{Option, subst, IfSome}
use Rattle.sap_bits.specs.declared.Op2.TheVariants.{Eq}
use Rattle.sap_net.specs.declared.parts.Right.TheVariants.{Two}
use Rattle.sap_fold.specs.declared.order.Bit.{Bit}
use Rattle.sap_share.specs.Sets.{holds}
use Rattle.sap_fold.specs.Order.{EitherAsks}
use Rattle.sap_fold.proofs.Becoming.{becomes_equal}
use Rattle.sap_fold.proofs.Ordering.{equal_bit}
use Rattle.sap_fold.proofs.order.see_equal.Goals as goal

pub returns-in_ok-operand-in-Some-clause-becomes : goal.returns-in_ok-operand-in-Some-clause-becomes
returns-in_ok-operand-in-Some-clause-becomes c =
    let s = c.args.wires.now in
    let t = c.provide.new.self in
    let ws = s.list.items in
    let k = subst (λ (o : Option Bit). IfSome o (λ x. EitherAsks ws c.args.a c.args.b x.name x.place)) c.in-Some.is (c.in_ok-bit.ensures {u = tt}) in
    equal_bit (holds c.args.taken.now) ws s.next c.args.width c.args.a c.args.b c.in-Some.bit.name c.in-Some.bit.place
    c.in_ok-operand-in-Some.operand t.list.items t.next k c.in_ok-operand-in-Some.ensures.provides

pub returns-in_ok-seen-in-None-clause-becomes : goal.returns-in_ok-seen-in-None-clause-becomes
returns-in_ok-seen-in-None-clause-becomes c =
    let s = c.args.wires.now in
    becomes_equal (holds c.args.taken.now) s.list.items s.next c.args.width (Two Eq c.args.a c.args.b) c.in_ok-seen-in-None.seen
    (c.in_ok-seen-in-None.ensures {u = tt} c.args.width)
