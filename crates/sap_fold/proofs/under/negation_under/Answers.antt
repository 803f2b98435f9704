use Rattle.sap_lemmas.proofs.Common.{◌≡◌, Option, subst, rules, IfSome}
use Rattle.sap_bits.specs.declared.Op1.TheVariants.{Not}
use Rattle.sap_net.specs.declared.parts.Operand.{Operand}
use Rattle.sap_net.specs.declared.parts.Right.TheVariants.{Copy, One}
use Rattle.sap_fold.specs.Seen.{Defines}
use Rattle.sap_fold.specs.Under.{number, Under}
use Rattle.sap_fold.proofs.Unders.{under_negation}
use Rattle.sap_fold.proofs.under.negation_under.Goals as goal

pub returns-in-Some : goal.returns-in-Some
returns-in-Some c =
    let ws = c.args.wires.now.list.items in
    let bit = c.args.known.bit.now in
    let n = number c.args.known.value in
    let of = c.in-Some-One-Not-default.of in
    let e : c.in-Some-One-Not-default.field-0.now ≡ One Not of = search rules in
    let k = subst (Defines ws c.args.operand.now) e c.in-Some-One-Not-default.ensures in
    let g = subst (λ (o : Option Operand). IfSome o (λ p. Under ws bit n of (Copy p))) c.in-Some.is (c.in_ok-rest.ensures {u = tt}) in
    under_negation ws bit c.args.operand.now of c.in-Some.rest n k g
