use Rattle.sap_lemmas.proofs.Common.{Option, sym, subst, IfSome}
use Rattle.sap_bits.specs.declared.Op1.TheVariants.{Not}
use Rattle.sap_net.specs.declared.parts.Operand.{Operand}
use Rattle.sap_net.specs.declared.parts.Right.{Right}
use Rattle.sap_net.specs.declared.parts.Right.TheVariants.{One, Two}
use Rattle.sap_fold.specs.Equals.{Equals}
use Rattle.sap_fold.specs.Seen.{Defines}
use Rattle.sap_fold.proofs.Negations.{negated_first, negated_second}
use Rattle.sap_fold.proofs.Sees.{equals_itself}
use Rattle.sap_fold.proofs.see.see_negated.Goals as goal

pub returns-in-Some : goal.returns-in-Some
returns-in-Some c =
    let ws = c.args.wires.now.list.items in
    let op = c.args.two.op in
    let a = c.args.two.a in
    let b = c.args.two.b in
    let k = subst (λ (o : Option Operand). IfSome o (λ d. Defines ws a (One Not d))) c.in-Some.is (c.in_ok-bit.ensures {u = tt}) in
    subst (λ (r : Right). Equals ws 1 (Two op a b) r) (sym c.chosen_by.ensures) (negated_first ws op a c.in-Some.bit b c.requires k)

pub returns-in-Some-2 : goal.returns-in-Some-2
returns-in-Some-2 c =
    let ws = c.args.wires.now.list.items in
    let op = c.args.two.op in
    let a = c.args.two.a in
    let b = c.args.two.b in
    let k = subst (λ (o : Option Operand). IfSome o (λ d. Defines ws b (One Not d))) c.in-Some-2.is (c.in_ok-bit-2.ensures {u = tt}) in
    subst (λ (r : Right). Equals ws 1 (Two op a b) r) (sym c.chosen_by-in-Some-2.ensures) (negated_second ws op a b c.in-Some-2.bit c.requires k)

pub returns-in-None : goal.returns-in-None
returns-in-None c = equals_itself c.args.wires.now.list.items 1 (Two c.args.two.op c.args.two.a c.args.two.b)
