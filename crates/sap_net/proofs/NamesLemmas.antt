-- On what stands in Names: what several crates cite.
use Rattle.sap_lemmas.proofs.Common.{Bool, List, None, Some, [], ap, bytes_eq, false, filter, inl, inr, map, refl, subst, sym, true, ℕ, ◌&&◌, ◌++◌, ◌||◌, ◌∙◌, ◌∷◌, ◌≡◌, AllByRecursion, list_all, cases_Bool, or_right, and_false, or_true, bytes_eq_apart_back, bytes_eq_same, equal_of_bytes_eq}
use Rattle.sap_maps.specs.Prelude.{Name, find}
use Rattle.sap_net.specs.Names.{AreDistinct, is_among, is_inner, is_name}

pub found_of : {X Y : Type 0} (name : Y → Name) (of : Y → X) (ys : List Y) (n : Name) → is_among n (map name ys) ≡ true → (x : X) × (find (map (λ y. (name y, of y)) ys) n ≡ Some x)
found_of name of [] n h = absurd (cc)
found_of name of (y ∷ ys) n h = elim (cases_Bool (bytes_eq (name y) n)) [
  | inl t ↦ (of y, rw t refl)
  | inr f ↦ (let g = bytes_eq_apart_back (name y) n f in let r = found_of name of ys n (rw g at h) in (r.0, rw f r.1))
]

pub each_among : (P : Name → Type 0) (xs : List Name) → ((n : Name) → is_among n xs ≡ true → P n) → AllByRecursion P xs
each_among P [] h = tt
each_among P (x ∷ xs) h = (h x (rw (bytes_eq_same x) refl), each_among P xs (λ n a. h n (or_right (bytes_eq n x) (is_among n xs) a)))

pub among_each : (P : Name → Type 0) (xs : List Name) → AllByRecursion P xs → (n : Name) → is_among n xs ≡ true → P n
among_each P [] a n h = absurd (cc)
among_each P (x ∷ xs) a n h =
    elim (cases_Bool (bytes_eq n x)) [ inl t ↦ subst P (sym (equal_of_bytes_eq n x t)) a.0 | inr f ↦ among_each P xs a.1 n (rw f at h) ]

pub filter_among : (f : Name → Bool) (xs : List Name) (n : Name) → is_among n (filter f xs) ≡ (is_among n xs && f n)
filter_among f [] n = refl
filter_among f (x ∷ xs) n =
    elim (cases_Bool (bytes_eq n x)) [
      | inl t ↦
          let e : n ≡ x = equal_of_bytes_eq n x t in
          elim (cases_Bool (f n)) [
            | inl a ↦ let a' : f x ≡ true = subst (λ (y : Name). f y ≡ true) e a in rw (a', t, a) refl
            | inr b ↦
                let b' : f x ≡ false = subst (λ (y : Name). f y ≡ false) e b in
                let r : is_among n (filter f xs) ≡ (is_among n xs && f n) = filter_among f xs n in
                rw (b', t, b) (r ∙ rw b (and_false (is_among n xs)))
          ]
      | inr g ↦
          elim (cases_Bool (f x)) [
            | inl a ↦ rw (a, g) (filter_among f xs n)
            | inr b ↦ rw (b, g) (filter_among f xs n)
          ]
    ]

pub filter_distinct : (f : Name → Bool) (xs : List Name) → AreDistinct xs → AreDistinct (filter f xs)
filter_distinct f [] d = tt
filter_distinct f (x ∷ xs) d =
    elim (cases_Bool (f x)) [
      | inl a ↦ rw a (filter_among f xs x ∙ rw d.0 refl, filter_distinct f xs d.1)
      | inr b ↦ rw b (filter_distinct f xs d.1)
    ]

pub among_append : (n : Name) (xs ys : List Name) → is_among n (xs ++ ys) ≡ (is_among n xs || is_among n ys)
among_append n [] ys = refl
among_append n (x ∷ xs) ys =
    elim (cases_Bool (bytes_eq n x)) [
      | inl t ↦ rw t refl
      | inr f ↦ rw f (among_append n xs ys)
    ]

pub among_neither : (n : Name) (xs ys : List Name) → is_among n xs ≡ false → is_among n ys ≡ false → is_among n (xs ++ ys) ≡ false
among_neither n xs ys a b = among_append n xs ys ∙ rw (a, b) refl

pub among_behind : (n : Name) (xs ys : List Name) → is_among n ys ≡ true → is_among n (xs ++ ys) ≡ true
among_behind n xs ys h = among_append n xs ys ∙ ap (λ (b : Bool). is_among n xs || b) h ∙ or_true (is_among n xs)

pub distinct_both : (gs zs : List Name) → AreDistinct gs → AreDistinct zs → ((n : Name) → is_among n gs ≡ true → is_among n zs ≡ false) → AreDistinct (gs ++ zs)
distinct_both [] zs a b k = b
distinct_both (x ∷ gs) zs a b k = (
  among_neither x gs zs a.0 (k x (rw (bytes_eq_same x) refl)),
  distinct_both gs zs a.1 b (λ n h. k n (among_behind n (x ∷ []) gs h)),
)

pub apart_by_membership : (a b : Name) (ns : List Name) → is_among a ns ≡ false → is_among b ns ≡ true → bytes_eq a b ≡ false
apart_by_membership a b ns f t = elim (cases_Bool (bytes_eq a b)) [
  | inl e ↦ (let i : a ≡ b = equal_of_bytes_eq a b e in let j : is_among b ns ≡ false = subst (λ (c : Name). is_among c ns ≡ false) i f in cc)
  | inr e ↦ e
]

pub not_found : {X Y : Type 0} (name : Y → Name) (of : Y → X) (ys : List Y) (n : Name) → is_among n (map name ys) ≡ false → find (map (λ y. (name y, of y)) ys) n ≡ None
not_found name of [] n h = refl
not_found name of (y ∷ ys) n h =
    elim (cases_Bool (bytes_eq n (name y))) [
      | inl t ↦ absurd (let e : (bytes_eq n (name y) || is_among n (map name ys)) ≡ true = rw t refl in cc)
      | inr f ↦ rw (bytes_eq_apart_back n (name y) f) (not_found name of ys n (rw f at h))
    ]

pub among_here : (n : Name) (xs : List Name) → is_among n (n ∷ xs) ≡ true
among_here n xs = rw (bytes_eq_same n) refl

pub among_front : (n : Name) (xs ys : List Name) → is_among n xs ≡ true → is_among n (xs ++ ys) ≡ true
among_front n xs ys h = among_append n xs ys ∙ ap (λ (b : Bool). b || is_among n ys) h

pub found_among : {X Y : Type 0} (name : Y → Name) (of : Y → X) (ys : List Y) (n : Name) (x : X) → find (map (λ y. (name y, of y)) ys) n ≡ Some x → is_among n (map name ys) ≡ true
found_among name of [] n x h = absurd (cc)
found_among name of (y ∷ ys) n x h =
    elim (cases_Bool (bytes_eq (name y) n)) [
      | inl t ↦ let e : bytes_eq n (name y) ≡ true = subst (λ (m : Name). bytes_eq m (name y) ≡ true) (equal_of_bytes_eq (name y) n t) (bytes_eq_same (name y)) in rw e refl
      | inr f ↦ rw (bytes_eq_apart_back (name y) n f) (found_among name of ys n x (rw f at h))
    ]

pub wire_name : (ds : List ℕ) → list_all is_inner ds ≡ true → is_name (110 ∷ ds) ≡ true
unfolding is_name
wire_name ds h = rw h refl
