use Rattle.std.proofs.Common.{sym, subst}
use Rattle.sap_bits.specs.declared.Op2.{Op2}
use Rattle.sap_bits.specs.declared.Op2.TheVariants.{Ne}
use Rattle.sap_net.specs.declared.parts.Right.TheVariants.{Two}
use Rattle.sap_fold.specs.Gives.{Becomes}
use Rattle.sap_share.specs.Sets.{holds}
use Rattle.sap_fold.proofs.Becoming.{becomes_equal}
use Rattle.sap_fold.proofs.see.see_two.Goals as goal

pub returns-in_ok-seen-in-Ne-clause-becomes : goal.returns-in_ok-seen-in-Ne-clause-becomes
returns-in_ok-seen-in-Ne-clause-becomes c =
    let s = c.args.wires.now in
    let w = c.args.width in
    let a = c.args.two.a in
    let b = c.args.two.b in
    let r = c.in_ok-seen-in-Ne.seen in
    subst (λ (op : Op2). Becomes (holds c.args.taken.now) s.list.items s.next w (Two op a b) r s.list.items s.next) (sym c.in-Ne.is)
    (becomes_equal (holds c.args.taken.now) s.list.items s.next w (Two Ne a b) r (c.in_ok-seen-in-Ne.ensures {u = tt} w))
