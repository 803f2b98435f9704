use Rattle.sap_lemmas.proofs.Common.{◌∙◌, List, Option, sym, subst, arith, IfSome, Vec, Global}
use Rattle.sap_net.specs.declared.parts.Operand.{Operand}
use Rattle.sap_net.specs.declared.parts.Right.TheVariants.{Choose, Concat}
use Rattle.sap_fold.specs.Equals.{Equals}
use Rattle.sap_fold.specs.Parts.{Between}
use Rattle.sap_fold.proofs.Betweening.{between_choice}
use Rattle.sap_fold.proofs.parts.spread_choice.Goals as goal

pub returns : goal.returns
returns c = λ ws.
    let x = c.args.condition in
    let w = c.args.width in
    let m = c.in-Some-Some.first in
    let n = c.in-Some-Some.second in
    let ps = c.in-Some.parts in
    let g = subst (λ (o : Option (Vec Operand Global)). IfSome o (λ qs. Between x 0 w m n qs.items)) c.in-Some.is (c.in_ok-bits.ensures {u = tt}) in
    let fits = ps.ok in
    subst (λ (os : List Operand). Equals ws w (Choose x c.args.a c.args.b) (Concat os)) (sym c.new.ensures)
    (between_choice ws w x c.args.a c.args.b m n ps.items (sym c.number_in.ensures ∙ c.in-Some-Some.is-0) (sym c.number_in-2.ensures
    ∙ c.in-Some-Some.is-1) g (omega (arith, fits, c.len.ensures, c.if-len-lt2.false)))
