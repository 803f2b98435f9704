use Rattle.std.proofs.Common.{sym, subst}
use Rattle.sap_bits.specs.declared.Op2.{Op2}
use Rattle.sap_bits.specs.declared.Op2.TheVariants.{And, Or}
use Rattle.sap_fold.specs.Absorbed.{Absorbs}
use Rattle.sap_fold.proofs.Absorbing.{absorbs_and, absorbs_or}
use Rattle.sap_fold.proofs.absorb.absorbed.Goals as goal

pub returns-in-And : goal.returns-in-And
returns-in-And c =
    let ws = c.args.wires.now.list.items in
    let a = c.args.a.now in
    let b = c.args.b.now in
    subst (λ (op : Op2). Absorbs ws op a b c.absorbed_and.result) (sym c.in-And.is)
    (subst (Absorbs ws And a b) (sym c.absorbed_and.ensures) (absorbs_and ws a b c.in-Some.right.now c.in-Some.ensures))

pub returns-in-Or : goal.returns-in-Or
returns-in-Or c =
    let ws = c.args.wires.now.list.items in
    let a = c.args.a.now in
    let b = c.args.b.now in
    subst (λ (op : Op2). Absorbs ws op a b c.absorbed_or.result) (sym c.in-Or.is)
    (subst (Absorbs ws Or a b) (sym c.absorbed_or.ensures) (absorbs_or ws a b c.in-Some.right.now c.in-Some.ensures))
