use Rattle.std.proofs.Common.{◌≡◌, ◌∙◌, ◌++◌, [], ◌∷◌, List, sym, ap, rules, append_assoc}
use Rattle.sap_lower.specs.declared.parts.Part.{Part}
use Rattle.sap_lower.specs.Lowering.{low_join}
use Rattle.sap_lower.specs.Parts.{glued}
use Rattle.sap_lower.proofs.Glue.{glued_push}
use Rattle.sap_lower.proofs.calc.glue.Goals as goal

pub loop-part-preserved : goal.loop-part-preserved
loop-part-preserved c =
    let ps : List Part = c.pop-in-loop-part.new.self.items in
    let p = c.in-Some-pop.part in
    let q = c.loop-part.whole in
    let ws = c.loop-part.wires in
    let e : c.loop-part.front.items ≡ ps ++ p ∷ [] = search rules in
    let f : c.loop-part.front.items ++ q ∷ [] ≡ ps ++ p ∷ q ∷ [] = ap (λ (xs : List Part). xs ++ q ∷ []) e ∙ append_assoc ps (p ∷ []) (q ∷ []) in
    let w : c.lower_join.new.wires ≡ (low_join p q ws).wires = c.in_ok-whole.ensures.wires in
    let t : c.in_ok-whole.whole ≡ (low_join p q ws).part = c.in_ok-whole.ensures.part in
    let g : glued c.lower_join.new.wires (ps ++ c.in_ok-whole.whole ∷ []) ≡ glued c.args.wires.now c.args.parts.items =
    rw (w, t) (sym (glued_push ps ws p q) ∙ sym (ap (λ (xs : List Part). glued ws xs) f) ∙ c.loop-part.invariant) in
    g
