-- Registers found by their names, in order.
use Rattle.sap_lemmas.proofs.Common.{◌≡◌, ◌<◌, ℕ, ◌+◌, List, [], ◌++◌, length, drop, get_or, Option, Some, None, ap, sym, ◌∙◌, refl, append_assoc}
use Rattle.sap_maps.specs.Prelude.{Name, find}
use Rattle.sap_net.specs.declared.parts.Register.{Register}
use Rattle.sap_taint_pass.specs.Tainted.{found_first, in_order}
use Rattle.sap_taint_pass.proofs.InOrder.{by_name}
use Rattle.sap_taint_pass.proofs.Helped.{tail_of}

both_found : (o : Option Register) (rs : List Register) → found_first o rs ≡ found_first o [] ++ rs
both_found None rs = refl
both_found (Some r) rs = refl

pub one_ordered : (names : List Name) (rs old new : List Register) (k : ℕ) (x : Name) → k < length names → x ≡ get_or names k x
    → new ≡ old ++ found_first (find (by_name rs) x) [] → new ++ in_order (drop (k + 1) names) rs ≡ old ++ in_order (drop k names) rs
one_ordered names rs old new k x l e h =
    let rest = in_order (drop (k + 1) names) rs in
    let o = find (by_name rs) x in
    ap (λ (ys : List Register). ys ++ rest) h
    ∙ append_assoc old (found_first o []) rest
    ∙ ap (λ (ys : List Register). old ++ ys) (sym (both_found o rest) ∙ ap (λ (ns : List Name). in_order ns rs) (sym (tail_of names k x l e)))
