use Rattle.std.proofs.Common.{Option, IfSome, subst}
use Rattle.sap_bits.specs.declared.Op1.TheVariants.{Not}
use Rattle.sap_net.specs.declared.parts.Operand.{Operand}
use Rattle.sap_net.specs.declared.parts.Right.TheVariants.{One}
use Rattle.sap_fold.specs.Seen.{Defines}
use Rattle.sap_fold.proofs.Sees.{not_not, equals_itself}
use Rattle.sap_fold.proofs.see.see_not.Goals as goal

pub returns-in-Some : goal.returns-in-Some
returns-in-Some c = λ u.
    let ws = c.args.wires.now.list.items in
    not_not ws u c.args.a c.in-Some.of (subst (λ (o : Option Operand). IfSome o (λ x. Defines ws c.args.a (One Not x))) c.in-Some.is (c.in_ok-of.ensures {u = tt}))

pub returns-in-None : goal.returns-in-None
returns-in-None c = λ u. equals_itself c.args.wires.now.list.items u (One Not c.args.a)
