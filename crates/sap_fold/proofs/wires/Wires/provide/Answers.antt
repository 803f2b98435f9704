use Rattle.std.proofs.Common.{◌≡◌, sym, subst}
use Rattle.sap_net.specs.declared.parts.Right.{Right}
use Rattle.sap_fold.specs.Folding.{folded}
use Rattle.sap_fold.proofs.Settling.{settled_stays}
use Rattle.sap_fold.proofs.wires.Wires.provide.Goals as goal

pub provide_settled-requires-clause-settled : goal.provide_settled-requires-clause-settled
provide_settled-requires-clause-settled c =
    subst (λ (r : Right). folded c.args.width r ≡ r) (sym c.settle-settled.ensures) (settled_stays c.args.width c.args.right)
