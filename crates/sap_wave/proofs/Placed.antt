-- Where variables stand in a runner.
use Rattle.sap_lemmas.proofs.Common.{◌≡◌, ℕ, ◌+◌, ◌<◌, List, [], ◌∷◌, ◌++◌, Option, Some, length, map, take, get_or, sym, ap, ap₂, ◌∙◌, arith, slice_get, length-map, map-append, map_more}
use Rattle.std.proofs.lemmas.List.{get_or-map}
use Rattle.sap_maps.specs.Maps.{Name}
use Rattle.sap_net.specs.Net.{Net}
use Rattle.sap_cycle.specs.Running.{IsPlaceOf, value_names}
use Rattle.sap_wave.specs.declared.variable.Variable.{Variable}
use Rattle.sap_wave.specs.Dumping.{StandAt}

abbrev name_of : Variable → Option Name
name_of x = Some x.name

-- one place for each variable
pub stand_count : (n : Net) (xs : List Variable) (places : List ℕ) → StandAt n xs places → length places ≡ length xs
stand_count n xs places h = sym (length-map places (slice_get (value_names n))) ∙ ap length h ∙ length-map xs name_of

-- a place more
pub stand_more : (n : Net) (xs : List Variable) (i : ℕ) (x : Variable) (old new : List ℕ) (place : ℕ) → i < length xs → x ≡ get_or xs i x
    → StandAt n (take i xs) old → IsPlaceOf n x.name place → new ≡ old ++ place ∷ [] → StandAt n (take (i + 1) xs) new
stand_more n xs i x old new place h e before there more =
    ap (map (slice_get (value_names n))) more
    ∙ map-append (slice_get (value_names n)) old (place ∷ [])
    ∙ ap₂ (λ (ys : List (Option Name)) (y : Option Name). ys ++ y ∷ []) before (there ∙ ap name_of e)
    ∙ sym (map_more name_of xs i x h)

-- each variable stands at its place
pub stands_there : (n : Net) (xs : List Variable) (places : List ℕ) (k place : ℕ) (d : Variable) → StandAt n xs places → k < length places → place ≡ get_or places k place
    → IsPlaceOf n (get_or xs k d).name place
stands_there n xs places k place d h l e =
    let there = stand_count n xs places h in
    ap (slice_get (value_names n)) e
    ∙ sym (get_or-map (slice_get (value_names n)) places k place (name_of d) l)
    ∙ ap (λ (ys : List (Option Name)). get_or ys k (name_of d)) h
    ∙ get_or-map name_of xs k d (name_of d) (omega (arith, l, there))
