use Rattle.sap_lemmas.proofs.Common.{◌≡◌, ◌∙◌, ◌+◌, ◌++◌, [], ◌∷◌, List, take, sym, ap, subst, arith, take_more}
use Rattle.sap_net.specs.declared.parts.Wire.{Wire}
use Rattle.sap_maps.specs.Scope.{find}
use Rattle.sap_trim.specs.Stays.{AllStay}
use Rattle.sap_trim.proofs.stays.put_wires.Goals as goal

pub loop-wire-preserved : goal.loop-wire-preserved
loop-wire-preserved c =
    let xs = c.args.wires.now in
    let k = c.loop-wire.wire-index in
    let y = c.wire-item.result in
    let e : take (k + 1) xs ≡ take k xs ++ y ∷ [] = take_more xs k y (omega arith) ∙ ap (λ z. take k xs ++ z ∷ []) (sym c.wire-item.is) in
    subst (λ (ws : List Wire). AllStay ws (find c.put_wire.new.stays)) (sym e) (c.in_ok-put_wire.ensures {u = tt} (take k xs) c.loop-wire.invariant)
