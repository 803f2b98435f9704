-- Names on lists, and what is found under them.
use Rattle.sap_lemmas.proofs.Common.{◌≡◌, List, [], ◌∷◌, ◌++◌, ◌||◌, filter, Some, None, Bool, true, false, sym, ap, ◌∙◌, refl, inl, inr, bytes_eq, AllByRecursion, cases_Bool, or_parts}
use Rattle.sap_net.proofs.NamesLemmas.{among_append}
use Rattle.sap_maps.specs.Prelude.{Name, find}
use Rattle.sap_maps.proofs.Scopes.{not_behind}
use Rattle.sap_net.specs.Names.{is_among}

pub or_elim : (a b : Bool) (P : Type 0) → (a ≡ true → P) → (b ≡ true → P) → (a || b) ≡ true → P
or_elim true b P f g h = f refl
or_elim false b P f g h = g h

pub among_split : (n : Name) (xs ys : List Name) (P : Type 0) → (is_among n xs ≡ true → P) → (is_among n ys ≡ true → P) → is_among n (xs ++ ys) ≡ true → P
among_split n xs ys P f g h = or_elim (is_among n xs) (is_among n ys) P f g (sym (among_append n xs ys) ∙ h)

pub none_among : (n : Name) (xs ys : List Name) → is_among n (xs ++ ys) ≡ false → (is_among n xs ≡ false) × (is_among n ys ≡ false)
none_among n xs ys h = or_parts (is_among n xs) (is_among n ys) (sym (among_append n xs ys) ∙ h)

-- filters

pub filter_append : {X : Type 0} (f : X → Bool) (xs ys : List X) → filter f (xs ++ ys) ≡ filter f xs ++ filter f ys
filter_append f [] ys = refl
filter_append {X} f (x ∷ xs) ys =
    elim (cases_Bool (f x)) [
      | inl t ↦ rw t (ap (λ (zs : List X). x ∷ zs) (filter_append f xs ys))
      | inr e ↦ rw e (filter_append f xs ys)
    ]

pub filter_none : {X : Type 0} (f : X → Bool) (xs : List X) → AllByRecursion (λ x. f x ≡ false) xs → filter f xs ≡ []
filter_none f [] h = refl
filter_none f (x ∷ xs) h = rw h.0 (filter_none f xs h.1)

pub filter_all : {X : Type 0} (f : X → Bool) (xs : List X) → AllByRecursion (λ x. f x ≡ true) xs → filter f xs ≡ xs
filter_all f [] h = refl
filter_all {X} f (x ∷ xs) h = rw h.0 (ap (λ (ys : List X). x ∷ ys) (filter_all f xs h.1))

pub filter_same : {X : Type 0} (f g : X → Bool) (xs : List X) → ((x : X) → f x ≡ g x) → filter f xs ≡ filter g xs
filter_same f g [] h = refl
filter_same {X} f g (x ∷ xs) h =
    elim (cases_Bool (g x)) [
      | inl t ↦ let u : f x ≡ true = h x ∙ t in rw (u, t) (ap (λ (zs : List X). x ∷ zs) (filter_same f g xs h))
      | inr e ↦ let u : f x ≡ false = h x ∙ e in rw (u, e) (filter_same f g xs h)
    ]

-- a filter whose names the second keeps first changes nothing
pub filter_within : (f g : Name → Bool) (xs : List Name) → ((x : Name) → g x ≡ true → f x ≡ true) → filter g (filter f xs) ≡ filter g xs
filter_within f g [] h = refl
filter_within f g (x ∷ xs) h =
    elim (cases_Bool (g x)) [
      | inl t ↦ let a = h x t in rw (a, t) (ap (λ (zs : List Name). x ∷ zs) (filter_within f g xs h))
      | inr e ↦
          elim (cases_Bool (f x)) [
            | inl a ↦ rw (a, e) (filter_within f g xs h)
            | inr b ↦ rw (b, e) (filter_within f g xs h)
          ]
    ]

-- names and what is found under them

-- what is not found before others is found neither before nor among them
pub none_first : {X : Type 0} (es fs : List (Name × X)) (n : Name) → find (es ++ fs) n ≡ None → (find es n ≡ None) × (find fs n ≡ None)
none_first [] fs n h = (refl, h)
none_first (e ∷ es) fs n h =
    elim (cases_Bool (bytes_eq e.0 n)) [
      | inl t ↦ absurd (let g : Some e.1 ≡ None = rw t at h in cc)
      | inr f ↦ let r = none_first es fs n (not_behind e (es ++ fs) n h) in (rw f r.0, r.1)
    ]

-- lists of facts
