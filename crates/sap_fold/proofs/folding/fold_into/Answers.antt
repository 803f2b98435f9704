use Rattle.std.proofs.Common.{refl, sym, subst}
use Rattle.sap_net.specs.declared.parts.Right.{Right}
use Rattle.sap_share.specs.Sets.{holds}
use Rattle.sap_fold.specs.Gives.{Gives}
use Rattle.sap_fold.proofs.Becoming.{gives_provided}
use Rattle.sap_fold.proofs.folding.fold_into.Goals as goal

pub returns-in-Copy-clause-gives : goal.returns-in-Copy-clause-gives
returns-in-Copy-clause-gives c =
    let s = c.args.wires.now in
    let o = c.in-Copy.operand in
    subst (λ (r : Right). Gives (holds c.args.taken.now) s.list.items s.next c.args.width r o s.list.items s.next) (sym c.in-Copy.is)
    (gives_provided (holds c.args.taken.now) s.list.items s.next c.args.width _ o s.list.items s.next (refl, refl, refl))
