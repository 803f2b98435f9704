-- Places behind bytes.
use Rattle.sap_lemmas.proofs.Common.{◌≡◌, ◌+◌, ℕ, List, [], ◌∷◌, ◌++◌, take, drop, refl, ap, sym, ◌∙◌, take-add}
use Rattle.sap_text.specs.declared.place.Place.{Place}
use Rattle.sap_text.specs.Places.{first_place, next_place, place_after, place_at}

pub place_after-append : (p : Place) (a b : List ℕ) → place_after p (a ++ b) ≡ place_after (place_after p a) b
place_after-append p [] b = refl
place_after-append p (x ∷ a) b = place_after-append (next_place p x) a b

pub place_at-more : (text : List ℕ) (n len : ℕ) → place_at text (n + len) ≡ place_after (place_at text n) (take len (drop n text))
unfolding place_at
place_at-more text n len = ap (place_after first_place) (take-add n len text) ∙ place_after-append first_place (take n text) (take len (drop n text))

pub advanced : {place after : Place} {rest : List ℕ} (text : List ℕ) (n len : ℕ) → place ≡ place_at text n → rest ≡ drop n text
    → after ≡ place_after place (take len rest) → after ≡ place_at text (n + len)
advanced {rest = rest} text n len here same next =
    next ∙ ap (λ p. place_after p (take len rest)) here ∙ ap (λ bytes. place_after (place_at text n) (take len bytes)) same ∙ sym (place_at-more text n len)
