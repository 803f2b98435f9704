use Rattle.std.proofs.Common.{subst}
use Rattle.sap_net.specs.declared.parts.Right.TheVariants.{Copy, Two}
use Rattle.sap_fold.specs.Absorbed.{Absorbs}
use Rattle.sap_fold.proofs.Absorbing.{turned_both}
use Rattle.sap_fold.proofs.Sees.{equals_both}
use Rattle.sap_fold.proofs.absorb.absorb.Goals as goal

pub returns-in-First-absorbed : goal.returns-in-First-absorbed
returns-in-First-absorbed c = λ u.
    let ws = c.args.wires.now.list.items in
    let op = c.args.op in
    let a = c.args.a in
    let b = c.args.b in
    equals_both ws u (Two op a b) (Two op b a) (Copy b) (turned_both ws u op a b c.requires) (subst (Absorbs ws op b a) c.in-First-absorbed.is c.absorbed-2.ensures u)

pub returns-in-Second-absorbed : goal.returns-in-Second-absorbed
returns-in-Second-absorbed c = λ u.
    let ws = c.args.wires.now.list.items in
    let op = c.args.op in
    let a = c.args.a in
    let b = c.args.b in
    equals_both ws u (Two op a b) (Two op b a) (Copy a) (turned_both ws u op a b c.requires) (subst (Absorbs ws op b a) c.in-Second-absorbed.is c.absorbed-2.ensures u)
