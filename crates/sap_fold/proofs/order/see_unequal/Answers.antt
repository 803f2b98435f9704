use Rattle.sap_lemmas.proofs.Common.{Option, subst, IfSome}
use Rattle.sap_fold.specs.declared.order.Bit.{Bit}
use Rattle.sap_fold.specs.Order.{EitherAsks}
use Rattle.sap_fold.proofs.Ordering.{unequal_bit}
use Rattle.sap_fold.proofs.order.see_unequal.Goals as goal

pub returns-in-Some : goal.returns-in-Some
returns-in-Some c = λ u.
    let ws = c.args.wires.now.list.items in
    let k = subst (λ (o : Option Bit). IfSome o (λ x. EitherAsks ws c.args.a c.args.b x.name x.place)) c.in-Some.is (c.in_ok-bit.ensures {u = tt}) in
    unequal_bit ws u c.args.a c.args.b c.in-Some.bit.name c.in-Some.bit.place k
