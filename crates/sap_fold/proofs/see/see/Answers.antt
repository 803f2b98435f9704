use Rattle.std.proofs.Common.{◌≡◌, sym, subst, rules}
use Rattle.sap_bits.specs.declared.Op1.TheVariants.{Not}
use Rattle.sap_net.specs.declared.parts.Right.{Right}
use Rattle.sap_net.specs.declared.parts.Right.TheVariants.{One, Concat, Slice}
use Rattle.sap_fold.specs.Gives.{Becomes}
use Rattle.sap_share.specs.Sets.{holds}
use Rattle.sap_fold.proofs.Becoming.{becomes_equal}
use Rattle.sap_fold.proofs.see.see.Goals as goal

pub returns-in_ok-seen-in-One-Not-default-clause-becomes : goal.returns-in_ok-seen-in-One-Not-default-clause-becomes
returns-in_ok-seen-in-One-Not-default-clause-becomes c =
    let s = c.args.wires.now in
    let w = c.args.width in
    let a = One Not c.in-One-Not-default.a in
    let seen = c.in_ok-seen-in-One-Not-default.seen in
    let e : c.args.given ≡ a = search rules in
    subst (λ (r : Right). Becomes (holds c.args.taken.now) s.list.items s.next w r seen s.list.items s.next) (sym e)
    (becomes_equal (holds c.args.taken.now) s.list.items s.next w a seen (c.in_ok-seen-in-One-Not-default.ensures {u = tt} w))

pub returns-in_ok-seen-in-Slice-clause-becomes : goal.returns-in_ok-seen-in-Slice-clause-becomes
returns-in_ok-seen-in-Slice-clause-becomes c =
    let s = c.args.wires.now in
    let w = c.args.width in
    let a = Slice c.in-Slice.name c.in-Slice.hi c.in-Slice.lo in
    let seen = c.in_ok-seen-in-Slice.seen in
    let e : c.args.given ≡ a = search rules in
    subst (λ (r : Right). Becomes (holds c.args.taken.now) s.list.items s.next w r seen s.list.items s.next) (sym e)
    (becomes_equal (holds c.args.taken.now) s.list.items s.next w a seen (c.in_ok-seen-in-Slice.ensures {u = tt} w))

pub returns-in_ok-seen-in-Concat-clause-becomes : goal.returns-in_ok-seen-in-Concat-clause-becomes
returns-in_ok-seen-in-Concat-clause-becomes c =
    let s = c.args.wires.now in
    let w = c.args.width in
    let a = Concat c.in-Concat.operands in
    let seen = c.in_ok-seen-in-Concat.seen in
    let e : c.args.given ≡ a = search rules in
    subst (λ (r : Right). Becomes (holds c.args.taken.now) s.list.items s.next w r seen s.list.items s.next) (sym e)
    (becomes_equal (holds c.args.taken.now) s.list.items s.next w a seen (c.in_ok-seen-in-Concat.ensures {u = tt} s.list.items w))
