-- The parts of a concatenation, lowered one after another and joined from the last one on.
use Rattle.std.proofs.Common.{◌≡◌, List, [], ◌∷◌, ◌++◌, ap, refl}
use Rattle.sap_maps.specs.Prelude.{Name, Term}
use Rattle.sap_net.specs.Rules.{Shapes}
use Rattle.sap_net.specs.declared.parts.Wire.{Wire}
use Rattle.sap_ir.specs.Calcs.{joined_behind, joined_terms}
use Rattle.sap_lower.specs.declared.parts.Part.{Part}
use Rattle.sap_lower.specs.Lowering.{Low, low, low_join}
use Rattle.sap_lower.specs.Parts.{low_all, glued_behind, glued}

-- two parts at the end are joined first
glued_behind_push : (ps : List Part) (ws : List Wire) (r p q : Part) → glued_behind ws r (ps ++ p ∷ q ∷ []) ≡ (let j = low_join p q ws in
    glued_behind j.wires r (ps ++ j.part ∷ []))
glued_behind_push [] ws r p q = refl
glued_behind_push (o ∷ ps) ws r p q = ap (λ (l : Low). low_join r l.part l.wires) (glued_behind_push ps ws o p q)

pub glued_push : (ps : List Part) (ws : List Wire) (p q : Part) → glued ws (ps ++ p ∷ q ∷ []) ≡ (let j = low_join p q ws in glued j.wires (ps ++ j.part ∷ []))
glued_push [] ws p q = refl
glued_push (o ∷ ps) ws p q = glued_behind_push ps ws o p q

low_behind : (ms : Shapes) (es : List (Name × Part)) (t : Term Name) (ts : List (Term Name)) (ws : List Wire)
    → low ms es (joined_behind t ts) ws ≡ (let x = low ms es t ws in let xs = low_all ms es ts x.wires in glued_behind xs.wires x.part xs.parts)
low_behind ms es t [] ws = refl
low_behind ms es t (u ∷ us) ws =
    let x = low ms es t ws in ap (λ (l : Low). low_join x.part l.part l.wires) (low_behind ms es u us x.wires)

pub low_joined : (ms : Shapes) (es : List (Name × Part)) (ts : List (Term Name)) (ws : List Wire)
    → low ms es (joined_terms ts) ws ≡ (let xs = low_all ms es ts ws in glued xs.wires xs.parts)
low_joined ms es [] ws = refl
low_joined ms es (t ∷ ts) ws = low_behind ms es t ts ws
