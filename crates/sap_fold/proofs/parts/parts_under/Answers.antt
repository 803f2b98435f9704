use Rattle.sap_lemmas.proofs.Common.{◌≡◌, ◌∙◌, ◌+◌, ◌++◌, [], ◌∷◌, List, take, sym, ap, subst, arith, take_more}
use Rattle.sap_net.specs.declared.parts.Operand.{Operand}
use Rattle.sap_fold.specs.Parts.{AddsPart, SameParts}
use Rattle.sap_fold.specs.Under.{number}
use Rattle.sap_fold.proofs.Parting.{same_more}
use Rattle.sap_fold.proofs.parts.parts_under.Goals as goal

pub loop-operand-preserved : goal.loop-operand-preserved
loop-operand-preserved c =
    let xs = c.args.operands.now in
    let k = c.loop-operand.operand-index in
    let y = c.operand-item.result in
    let x = c.args.bit.now in
    let t = c.args.value in
    let ps = c.loop-operand.parts.items in
    let qs = c.add_part.new.parts.items in
    let e : take (k + 1) xs ≡ take k xs ++ y ∷ [] = take_more xs k y (omega arith) ∙ ap (λ z. take k xs ++ z ∷ []) (sym c.operand-item.is) in
    let adds = subst (λ (p : Operand). AddsPart ps p qs) (c.in_ok-part.ensures {u = tt}) (c.in_ok-add_part.ensures {u = tt}) in
    subst (λ (os : List Operand). SameParts x (number t) os qs) (sym e) (same_more x t (take k xs) ps y qs c.loop-operand.invariant adds)
