-- What filters leave of names with their tags.
use Rattle.sap_lemmas.proofs.Common.{◌≡◌, Bool, List, [], ◌∷◌, ◌++◌, filter, true, false, ◌&&◌, ap, ◌∙◌, refl, inl, inr, bytes_eq, cases_Bool, or_right, append-nil, filter-append}
use Rattle.sap_maps.specs.Maps.{Name}
use Rattle.sap_net.specs.Names.{is_among}
use Rattle.sap_net.proofs.NamesLemmas.{among_here, filter_among}
use Rattle.sap_taint.specs.TagNames.{name_of_tag, with_tags}
use Rattle.sap_build.proofs.OneMore.{filter_same}

later_among : (P : Name → Type 0) (x : Name) (xs : List Name) → ((y : Name) → is_among y (x ∷ xs) ≡ true → P y) → (y : Name) → is_among y xs ≡ true → P y
later_among P x xs h y m = h y (or_right (bytes_eq y x) (is_among y xs) m)

pub filter_none : (f : Name → Bool) (xs : List Name) → ((y : Name) → is_among y xs ≡ true → f y ≡ false) → filter f xs ≡ []
filter_none f [] h = refl
filter_none f (x ∷ xs) h = rw (h x (among_here x xs)) (filter_none f xs (later_among (λ y. f y ≡ false) x xs h))

pub filter_names : (f : Name → Bool) (xs : List Name) → ((y : Name) → is_among y xs ≡ true → f (name_of_tag y) ≡ false) → filter f (with_tags xs) ≡ filter f xs
filter_names f [] h = refl
filter_names f (x ∷ xs) h =
    let rest = filter_names f xs (later_among (λ y. f (name_of_tag y) ≡ false) x xs h) in
    elim (cases_Bool (f x)) [
      | inl t ↦ rw (t, h x (among_here x xs)) (ap (λ ys. x ∷ ys) rest)
      | inr q ↦ rw (q, h x (among_here x xs)) rest
    ]

pub filter_front : (f : Name → Bool) (xs ys : List Name) → ((y : Name) → is_among y ys ≡ true → f y ≡ false) → filter f (xs ++ ys) ≡ filter f xs
filter_front f xs ys h = filter-append f xs ys ∙ ap (λ zs. filter f xs ++ zs) (filter_none f ys h) ∙ append-nil (filter f xs)

-- what a filter leaves, it leaves of itself
pub filter_again : (f : Name → Bool) (xs : List Name) → filter (λ x. is_among x (filter f xs)) xs ≡ filter f xs
filter_again f xs = filter_same (λ x. is_among x (filter f xs)) f xs (λ y m. filter_among f xs y ∙ ap (λ b. b && f y) m)
