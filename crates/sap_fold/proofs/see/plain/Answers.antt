use Rattle.std.proofs.Common.{◌≡◌, sym, subst, refl, rules}
use Rattle.sap_bits.specs.declared.Op1.TheVariants.{Not}
use Rattle.sap_net.specs.declared.parts.Right.{Right}
use Rattle.sap_net.specs.declared.parts.Right.TheVariants.{One}
use Rattle.sap_fold.specs.Equals.{Equals}
use Rattle.sap_fold.proofs.Folds.{folded_equals}
use Rattle.sap_fold.proofs.Sees.{equals_both}
use Rattle.sap_fold.proofs.see.plain.Goals as goal

pub returns-in_ok-seen-in-One-Not-default : goal.returns-in_ok-seen-in-One-Not-default
returns-in_ok-seen-in-One-Not-default c =
    let ws = c.args.wires.now.list.items in
    let w = c.args.width in
    let a = One Not c.in-One-Not-default.a in
    let seen = c.in_ok-seen-in-One-Not-default.seen in
    let e : c.args.given ≡ a = search rules in
    subst (λ (r : Right). Equals ws w r c.fold.result) (sym e)
    (equals_both ws w a seen c.fold.result (c.in_ok-seen-in-One-Not-default.ensures {u = tt} w) (folded_equals ws w seen c.fold.result seen c.fold.ensures refl))
