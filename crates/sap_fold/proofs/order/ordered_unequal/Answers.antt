use Rattle.sap_lemmas.proofs.Common.{Option, subst, IfSome}
use Rattle.sap_bits.specs.declared.Op2.TheVariants.{Ne, Lt}
use Rattle.sap_net.specs.declared.parts.Operand.{Operand}
use Rattle.sap_net.specs.declared.parts.Right.TheVariants.{Two}
use Rattle.sap_fold.specs.Order.{BitBeside}
use Rattle.sap_fold.proofs.Ordering.{unequal_order, unequal_turned}
use Rattle.sap_fold.proofs.Sees.{equals_both}
use Rattle.sap_fold.proofs.order.ordered_unequal.Goals as goal

pub returns-in-Some : goal.returns-in-Some
returns-in-Some c = λ u.
    let ws = c.args.wires.now.list.items in
    unequal_order ws u c.args.a c.args.b c.in-Some.rest
    (subst (λ (o : Option Operand). IfSome o (λ p. BitBeside ws c.args.a c.args.b p)) c.in-Some.is (c.in_ok-rest.ensures {u = tt}))

pub returns-in-Some-2 : goal.returns-in-Some-2
returns-in-Some-2 c = λ u.
    let ws = c.args.wires.now.list.items in
    let a = c.args.a in
    let b = c.args.b in
    let p = c.in-Some-2.rest in
    let k = subst (λ (o : Option Operand). IfSome o (λ q. BitBeside ws b a q)) c.in-Some-2.is (c.in_ok-rest-2.ensures {u = tt}) in
    equals_both ws u (Two Ne a b) (Two Ne b a) (Two Lt b p) (unequal_turned ws u a b) (unequal_order ws u b a p k)
