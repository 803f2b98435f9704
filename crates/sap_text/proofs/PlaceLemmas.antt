-- Places behind bytes.
use Rattle.sap_lemmas.proofs.Common.{◌≡◌, ◌<◌, ◌≤◌, ◌+◌, ℕ, List, length, drop, get_or, at_drop_more, at_drop_all}
use Rattle.sap_text.specs.declared.place.Place.{Place}
use Rattle.sap_text.specs.Places.{next_place, place_after}

pub place_more : (p : Place) (bs : List ℕ) (i : ℕ) → i < length bs → place_after p (drop i bs) ≡ place_after (next_place p (get_or bs i 0)) (drop (i + 1) bs)
place_more p bs i h = at_drop_more (place_after p) bs i 0 h

pub place_all : (p : Place) (bs : List ℕ) (i : ℕ) → length bs ≤ i → place_after p (drop i bs) ≡ p
place_all p bs i h = at_drop_all (place_after p) bs i h

pub ruleset places = (place_more, place_all)
