-- On what stands in Test: what several crates cite.
use Rattle.sap_lemmas.proofs.Common.{List, [], ap, not, refl, true, ◌∷◌, ◌≡◌, and_from, and_parts, not-true}
use Rattle.sap_ir.specs.Test.{are_distinct}
use Rattle.sap_maps.specs.Maps.{Name}
use Rattle.sap_net.specs.Names.{AreDistinct, is_among}

pub distinct_from : (xs : List Name) → are_distinct xs ≡ true → AreDistinct xs
distinct_from [] h = tt
distinct_from (x ∷ xs) h =
    let p = and_parts (not (is_among x xs)) (are_distinct xs) h in (not-true (is_among x xs) p.0, distinct_from xs p.1)

pub distinct_to : (xs : List Name) → AreDistinct xs → are_distinct xs ≡ true
distinct_to [] h = refl
distinct_to (x ∷ xs) h = and_from (not (is_among x xs)) (are_distinct xs) (ap not h.0) (distinct_to xs h.1)
