-- Lists of names, lists with names as keys, and what stands on a list.
use Rattle.sap_lemmas.proofs.Common.{◌≡◌, List, [], ◌∷◌, ◌++◌, Bool, true, false, cond, Option, Some, None, refl, sym, ap, ◌∙◌, subst, inl, inr, ⊎_elim, ◌⊎◌, ◌||◌, map, is_some, AllByRecursion, bytes_eq, cases_Bool, or_from, or_right as or_here, or_parts, bytes_eq_apart_back, bytes_eq_same, equal_of_bytes_eq, map-append}
use Rattle.sap_net.proofs.NamesLemmas.{among_append}
use Rattle.sap_maps.specs.Prelude.{Name, find}
use Rattle.sap_net.specs.Names.{is_among, AreDistinct}
use Rattle.sap_text.specs.Best.{StandsIn}

-- Tests.

-- Lists.

pub among_left : {A : Type 0} (x : A) (xs ys : List A) → StandsIn x xs → StandsIn x (xs ++ ys)
among_left x [] ys m = absurd m
among_left x (y ∷ xs) ys (inl e) = inl e
among_left x (y ∷ xs) ys (inr m) = inr (among_left x xs ys m)

pub among_right : {A : Type 0} (x : A) (xs ys : List A) → StandsIn x ys → StandsIn x (xs ++ ys)
among_right x [] ys m = m
among_right x (y ∷ xs) ys m = inr (among_right x xs ys m)

pub among_cases : {A : Type 0} (x : A) (xs ys : List A) → StandsIn x (xs ++ ys) → StandsIn x xs ⊎ StandsIn x ys
among_cases x [] ys m = inr m
among_cases x (y ∷ xs) ys (inl e) = inl (inl e)
among_cases x (y ∷ xs) ys (inr m) = ⊎_elim (λ p. inl (inr p)) (λ p. inr p) (among_cases x xs ys m)

pub among_mapped : {A B : Type 0} (f : A → B) (x : A) (xs : List A) → StandsIn x xs → StandsIn (f x) (map f xs)
among_mapped f x [] m = absurd m
among_mapped f x (y ∷ xs) (inl e) = inl (ap f e)
among_mapped f x (y ∷ xs) (inr m) = inr (among_mapped f x xs m)

-- Names.

pub among_name : {A : Type 0} (name : A → Name) (y : A) (xs : List A) → StandsIn y xs → is_among (name y) (map name xs) ≡ true
among_name name y [] m = absurd m
among_name name y (x ∷ xs) (inl e) =
    ap (λ b. b || is_among (name y) (map name xs)) (subst (λ z. bytes_eq (name y) (name z) ≡ true) e (bytes_eq_same (name y)))
among_name name y (x ∷ xs) (inr m) = or_here (bytes_eq (name y) (name x)) (is_among (name y) (map name xs)) (among_name name y xs m)

pub named_among : {A : Type 0} (name : A → Name) (xs : List A) (x : Name) → is_among x (map name xs) ≡ true → (y : A) × StandsIn y xs × (name y ≡ x)
named_among name [] x m = absurd (cc)
named_among name (y ∷ ys) x m =
    ⊎_elim
    (λ t. (y, inl refl, sym (equal_of_bytes_eq x (name y) t)))
    (λ f. let r = named_among name ys x (ap (λ b. b || is_among x (map name ys)) (sym f) ∙ m) in (r.0, inr r.1, r.2))
    (cases_Bool (bytes_eq x (name y)))

pub all_from : (P : Name → Type 0) (xs zs : List Name) → ((x : Name) → is_among x zs ≡ true → P x)
    → ((x : Name) → is_among x xs ≡ true → is_among x zs ≡ true) → AllByRecursion P xs
all_from P [] zs f g = tt
all_from P (x ∷ xs) zs f g =
    (f x (g x (ap (λ b. b || is_among x xs) (bytes_eq_same x))), all_from P xs zs f (λ y m. g y (or_here (bytes_eq y x) (is_among y xs) m)))

-- no name of the first list stands on the second
abbrev pub NoneAmong : List Name → List Name → Type 0
NoneAmong xs ys = AllByRecursion (λ x. is_among x ys ≡ false) xs

pub not_among : (xs ys : List Name) (x : Name) → NoneAmong xs ys → is_among x ys ≡ true → is_among x xs ≡ true → ⊥
not_among [] ys x h m k = absurd (cc)
not_among (z ∷ xs) ys x h m k =
    ⊎_elim
    (λ t. let e : is_among x ys ≡ false = subst (λ v. is_among v ys ≡ false) (sym (equal_of_bytes_eq x z t)) h.0 in absurd (cc))
    (λ f. not_among xs ys x h.1 m (ap (λ b. b || is_among x xs) (sym f) ∙ k))
    (cases_Bool (bytes_eq x z))

pub none_among_append : (xs ys zs : List Name) → NoneAmong xs ys → NoneAmong xs zs → NoneAmong xs (ys ++ zs)
none_among_append [] ys zs p q = tt
none_among_append (x ∷ xs) ys zs p q = (among_append x ys zs ∙ or_from _ _ p.0 q.0, none_among_append xs ys zs p.1 q.1)

pub none_among_parts : (xs ys zs : List Name) → NoneAmong (xs ++ ys) zs → NoneAmong xs zs × NoneAmong ys zs
none_among_parts [] ys zs h = (tt, h)
none_among_parts (x ∷ xs) ys zs h = let r = none_among_parts xs ys zs h.1 in ((h.0, r.0), r.1)

pub distinct_append : (xs ys : List Name) → AreDistinct xs → AreDistinct ys → NoneAmong xs ys → AreDistinct (xs ++ ys)
distinct_append [] ys p q n = q
distinct_append (x ∷ xs) ys p q n = (among_append x xs ys ∙ or_from _ _ p.0 n.0, distinct_append xs ys p.1 q n.1)

pub distinct_parts : (xs ys : List Name) → AreDistinct (xs ++ ys) → AreDistinct xs × AreDistinct ys × NoneAmong xs ys
distinct_parts [] ys h = (tt, h, tt)
distinct_parts (x ∷ xs) ys h =
    let r = distinct_parts xs ys h.1 in
    let s = or_parts (is_among x xs) (is_among x ys) (sym (among_append x xs ys) ∙ h.0) in
    ((s.0, r.0), r.1, (s.1, r.2))

-- Lists with names as keys.

abbrev pub keys : {X : Type 0} → List (Name × X) → List Name
keys es = map (λ e. e.0) es

-- no key stands behind itself
abbrev pub AreNew : {X : Type 0} → List (Name × X) → Type 0
AreNew [] = Unit {0}
AreNew (e ∷ es) = (find es e.0 ≡ None) × AreNew es

pub keys_append : {X : Type 0} (es ds : List (Name × X)) → keys (es ++ ds) ≡ keys es ++ keys ds
keys_append es ds = map-append (λ e. e.0) es ds

pub keys_map : {A X : Type 0} (name : A → Name) (f : A → X) (xs : List A) → keys (map (λ x. (name x, f x)) xs) ≡ map name xs
keys_map name f [] = refl
keys_map name f (x ∷ xs) = ap (λ z. name x ∷ z) (keys_map name f xs)

pub found_key : {X : Type 0} (es : List (Name × X)) (x : Name) → is_some (find es x) ≡ is_among x (keys es)
found_key [] x = refl
found_key (e ∷ es) x =
    ⊎_elim
    (λ t. let s : bytes_eq x e.0 ≡ true = subst (λ z. bytes_eq z e.0 ≡ true) (equal_of_bytes_eq e.0 x t) (bytes_eq_same e.0) in
    ap (λ b. is_some (cond b (Some e.1) (find es x))) t ∙ ap (λ b. b || is_among x (keys es)) (sym s))
    (λ f. ap (λ b. is_some (cond b (Some e.1) (find es x))) f ∙ found_key es x ∙ ap (λ b. b || is_among x (keys es)) (sym (bytes_eq_apart_back e.0 x f)))
    (cases_Bool (bytes_eq e.0 x))

pub none_key : {X : Type 0} (es : List (Name × X)) (x : Name) → find es x ≡ None → is_among x (keys es) ≡ false
none_key es x h = sym (found_key es x) ∙ ap is_some h

pub key_none : {X : Type 0} (es : List (Name × X)) (x : Name) → is_among x (keys es) ≡ false → find es x ≡ None
key_none {X = X} es x h = by_case (find es x) (found_key es x ∙ h) where
  by_case : (o : Option X) → is_some o ≡ false → o ≡ None
  by_case None e = refl
  by_case (Some y) e = absurd (cc)

pub new_keys : {X : Type 0} (es : List (Name × X)) → AreDistinct (keys es) → AreNew es
new_keys [] h = tt
new_keys (e ∷ es) h = (key_none es e.0 h.0, new_keys es h.1)

pub found_all : {X : Type 0} (P : X → Type 0) (es : List (Name × X)) (x : Name) (s : X) → AllByRecursion (λ e. P e.1) es → find es x ≡ Some s → P s
found_all P [] x s h f = absurd (cc)
found_all P (e ∷ es) x s h f = by_test (bytes_eq e.0 x) f (found_all P es x s h.1) where
  by_test : (b : Bool) → cond b (Some e.1) (find es x) ≡ Some s → (find es x ≡ Some s → P s) → P s
  by_test true g k = let q : e.1 ≡ s = cc in subst P q h.0
  by_test false g k = k g

pub among_found : {X : Type 0} (es : List (Name × X)) (x : Name) (s : X) → find es x ≡ Some s → StandsIn {A = Name × X} (x, s) es
among_found [] x s f = absurd (cc)
among_found {X = X} (e ∷ es) x s f =
    ⊎_elim
    (λ t. let q : Some e.1 ≡ Some s = rw t at f in let p : e.1 ≡ s = cc in inl (pair_same (sym (equal_of_bytes_eq e.0 x t)) (sym p)))
    (λ t. inr (among_found es x s (rw t at f)))
    (cases_Bool (bytes_eq e.0 x)) where
      pair_same : {n m : Name} {a b : X} → n ≡ m → a ≡ b → ◌≡◌ {A = Name × X} (n, a) (m, b)
      pair_same p q = cc

pub found_among : {X : Type 0} (es : List (Name × X)) → AreNew es → (x : Name) (s : X) → StandsIn {A = Name × X} (x, s) es → find es x ≡ Some s
found_among [] h x s m = absurd m
found_among {X = X} (e ∷ es) h x s (inl p) =
    let q : x ≡ e.0 = ap (λ (z : Name × X). z.0) p in
    let r : s ≡ e.1 = ap (λ (z : Name × X). z.1) p in
    ap (λ b. cond b (Some e.1) (find es x)) (subst (λ z. bytes_eq e.0 z ≡ true) (sym q) (bytes_eq_same e.0)) ∙ ap (λ z. Some z) (sym r)
found_among (e ∷ es) h x s (inr m) =
    let f = found_among es h.1 x s m in
    ⊎_elim
    (λ t. let g : find es x ≡ None = subst (λ z. find es z ≡ None) (equal_of_bytes_eq e.0 x t) h.0 in absurd (cc))
    (λ t. ap (λ b. cond b (Some e.1) (find es x)) t ∙ f)
    (cases_Bool (bytes_eq e.0 x))
