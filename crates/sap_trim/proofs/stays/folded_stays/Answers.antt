use Rattle.sap_lemmas.proofs.Common.{◌∙◌, List, take, drop, subst, take-append-drop, IfOk-weaker}
use Rattle.sap_net.specs.declared.parts.Wire.{Wire}
use Rattle.sap_maps.specs.Scope.{find}
use Rattle.sap_trim.specs.Stays.{AllStay}
use Rattle.sap_trim.proofs.Staying.{all_stay_more}
use Rattle.sap_trim.proofs.stays.folded_stays.Goals as goal

pub returns : goal.returns
returns c =
    let ws = c.wires-wires.result.now in
    let k = c.before_copies.result in
    IfOk-weaker c.stays.result _ _
    (λ s h. subst (λ (xs : List Wire). AllStay xs (find s)) (take-append-drop k ws ∙ c.wires-wires.ensures) (all_stay_more (take k ws) (drop k ws) (find s) h))
    c.stays.ensures
