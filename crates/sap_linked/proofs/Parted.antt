-- Names that stand in one of two lists, and lists with and without those that pass a test.
use Rattle.sap_lemmas.proofs.Common.{◌≡◌, ◌⊎◌, ◌&&◌, ◌||◌, Bool, true, false, not, List, [], ◌∷◌, ◌++◌, map, filter, None, refl, sym, ◌∙◌, ap, inl, inr, bytes_eq, AllByRecursion, cases_Bool, or_cases, neither_left, neither_right, bytes_eq_apart_back}
use Rattle.sap_maps.specs.Prelude.{Name, find}
use Rattle.sap_net.specs.Names.{AreDistinct, is_among}
use Rattle.sap_net.proofs.NamesLemmas.{among_append, each_among, filter_among}

pub contradicted : (b : Bool) → b ≡ false → b ≡ true → ⊥
contradicted b lacks has = cc

pub absent : (z : Name) (xs : List Name) → (is_among z xs ≡ true → ⊥) → is_among z xs ≡ false
absent z xs h = elim (cases_Bool (is_among z xs)) [ inl t ↦ absurd (h t) | inr q ↦ q ]

pub either : (xs ys : List Name) (z : Name) → is_among z (xs ++ ys) ≡ true → (is_among z xs ≡ true) ⊎ (is_among z ys ≡ true)
either xs ys z h = or_cases (is_among z xs) (is_among z ys) (sym (among_append z xs ys) ∙ h)

pub distinct_front : (xs ys : List Name) → AreDistinct (xs ++ ys) → AreDistinct xs
distinct_front [] ys d = tt
distinct_front (x ∷ xs) ys d = (neither_left (is_among x xs) (is_among x ys) (sym (among_append x xs ys) ∙ d.0), distinct_front xs ys d.1)

pub find_absent : {X : Type 0} (es : List (Name × X)) (x : Name) → is_among x (map (λ (e : Name × X). e.0) es) ≡ false → find es x ≡ None
find_absent [] x h = refl
find_absent {X} (e ∷ es) x h =
    let other = bytes_eq_apart_back x e.0 (neither_left (bytes_eq x e.0) (is_among x (map (λ (e : Name × X). e.0) es)) h) in
    rw other (find_absent es x (neither_right (bytes_eq x e.0) (is_among x (map (λ (e : Name × X). e.0) es)) h))

-- the names of entries
pub entry_names : {X Y : Type 0} (name : Y → Name) (of : Y → X) (ys : List Y) → map (λ (e : Name × X). e.0) (map {B = Name × X} (λ y. (name y, of y)) ys) ≡ map name ys
entry_names name of [] = refl
entry_names name of (y ∷ ys) = ap (λ (ns : List Name). name y ∷ ns) (entry_names name of ys)

-- ---- filters

pub filter_all : (f : Name → Bool) (xs : List Name) → AllByRecursion (λ x. f x ≡ true) xs → filter f xs ≡ xs
filter_all f [] a = refl
filter_all f (x ∷ xs) a = rw a.0 (ap (λ (ys : List Name). x ∷ ys) (filter_all f xs a.1))

pub filter_none : (f : Name → Bool) (xs : List Name) → AllByRecursion (λ x. f x ≡ false) xs → filter f xs ≡ []
filter_none f [] a = refl
filter_none f (x ∷ xs) a = rw a.0 (filter_none f xs a.1)

pub all_pass : (f : Name → Bool) (xs : List Name) → ((x : Name) → is_among x xs ≡ true → f x ≡ true) → filter f xs ≡ xs
all_pass f xs h = filter_all f xs (each_among (λ x. f x ≡ true) xs h)

pub none_pass : (f : Name → Bool) (xs : List Name) → ((x : Name) → is_among x xs ≡ true → f x ≡ false) → filter f xs ≡ []
none_pass f xs h = filter_none f xs (each_among (λ x. f x ≡ false) xs h)

pub filter_alike : (f g : Name → Bool) (xs : List Name) → ((x : Name) → f x ≡ g x) → filter f xs ≡ filter g xs
filter_alike f g [] h = refl
filter_alike f g (x ∷ xs) h =
    elim (cases_Bool (g x)) [
      | inl t ↦ let u : f x ≡ true = h x ∙ t in rw (t, u) (ap (λ (ys : List Name). x ∷ ys) (filter_alike f g xs h))
      | inr q ↦ let u : f x ≡ false = h x ∙ q in rw (q, u) (filter_alike f g xs h)
    ]

pub filter_swap : (f g : Name → Bool) (xs : List Name) → filter f (filter g xs) ≡ filter g (filter f xs)
filter_swap f g [] = refl
filter_swap f g (x ∷ xs) =
    elim (cases_Bool (f x)) [
      | inl t ↦ elim (cases_Bool (g x)) [
        | inl u ↦ rw (t, u) (rw t (ap (λ (ys : List Name). x ∷ ys) (filter_swap f g xs)))
        | inr v ↦ rw (t, v) (filter_swap f g xs)
      ]
      | inr q ↦ elim (cases_Bool (g x)) [
        | inl u ↦ rw (q, u) (rw q (filter_swap f g xs))
        | inr v ↦ rw (q, v) (filter_swap f g xs)
      ]
    ]

pub filter_named : {Y : Type 0} (name : Y → Name) (f : Name → Bool) (ys : List Y) → map name (filter (λ y. f (name y)) ys) ≡ filter f (map name ys)
filter_named name f [] = refl
filter_named name f (y ∷ ys) =
    elim (cases_Bool (f (name y))) [
      | inl t ↦ rw t (ap (λ (ns : List Name). name y ∷ ns) (filter_named name f ys))
      | inr q ↦ rw q (filter_named name f ys)
    ]

either_way : (b c : Bool) → ((b && c) || (b && not c)) ≡ b
either_way true true = refl
either_way true false = refl
either_way false c = refl

-- those that pass and the others are all
pub both_among : (f : Name → Bool) (xs : List Name) (x : Name) → is_among x (filter f xs ++ filter (λ y. not (f y)) xs) ≡ is_among x xs
both_among f xs x =
    among_append x (filter f xs) (filter (λ y. not (f y)) xs)
    ∙ ap (λ (b : Bool). b || is_among x (filter (λ y. not (f y)) xs)) (filter_among f xs x)
    ∙ ap (λ (b : Bool). (is_among x xs && f x) || b) (filter_among (λ y. not (f y)) xs x)
    ∙ either_way (is_among x xs) (f x)
