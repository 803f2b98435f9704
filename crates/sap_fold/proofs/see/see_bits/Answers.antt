use Rattle.std.proofs.Common.{Bool, subst}
use Rattle.sap_net.specs.declared.parts.Right.TheVariants.{Two}
use Rattle.sap_share.specs.Sets.{holds}
use Rattle.sap_fold.specs.Gives.{ArmGives}
use Rattle.sap_fold.specs.Under.{number}
use Rattle.sap_fold.proofs.Becoming.{becomes_both, becomes_equal, bits_become}
use Rattle.sap_fold.proofs.see.see_bits.Goals as goal

pub returns-clause-becomes : goal.returns-clause-becomes
returns-clause-becomes c =
    let s = c.args.wires.now in
    let m = c.arm.new.wires in
    let t = c.arm-2.new.wires in
    let f = holds c.args.taken.now in
    let a = c.args.two.a in
    let b = c.args.two.b in
    let p = c.in_ok-a.a in
    let q = c.in_ok-b.b in
    let x = Two c.args.two.op a b in
    let y = Two c.args.two.op p q in
    let seen = c.in_ok-seen.seen in
    becomes_both f s.list.items s.next 1 x y seen t.list.items t.next t.list.items t.next
    (
    bits_become f s.list.items s.next c.args.two.op a b p q m.list.items m.next t.list.items t.next c.requires.bits
    (subst (λ (v : Bool). ArmGives f s.list.items s.next 1 a (number v) b q m.list.items m.next) c.is_and-value.ensures c.in_ok-b.ensures.arm)
    (subst (λ (v : Bool). ArmGives f m.list.items m.next 1 q (number v) a p t.list.items t.next) c.is_and-value.ensures c.in_ok-a.ensures.arm)
    )
    (becomes_equal f t.list.items t.next 1 y seen (c.in_ok-seen.ensures {u = tt}))
