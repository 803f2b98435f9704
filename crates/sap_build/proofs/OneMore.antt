-- Lists of names and ports with one more at the end.
use Rattle.sap_lemmas.proofs.Common.{◌≡◌, Bool, true, false, ◌||◌, List, [], ◌∷◌, ◌++◌, map, filter, take, length, ap, ap₂, sym, ◌∙◌, refl, inl, inr, bytes_eq, AllByRecursion, cases_Bool, or_right, append-nil, map-append, filter-append, neither_left, neither_right, or_assoc, or_false, or_true, all_append, bytes_eq_apart_back}
use Rattle.sap_maps.specs.Maps.{Name}
use Rattle.sap_net.specs.Names.{AreDistinct, is_among}
use Rattle.sap_net.specs.declared.parts.Port.{Port}
use Rattle.sap_net.proofs.NamesLemmas.{among_append, among_behind, among_here, among_neither, apart_by_membership}

pub all_more : {A : Type 0} (P : A → Type 0) (xs : List A) (x : A) → AllByRecursion P xs → P x → AllByRecursion P (xs ++ x ∷ [])
all_more P xs x a p = all_append P xs (x ∷ []) a (p, tt)

not_alone : (y x : Name) → bytes_eq y x ≡ false → is_among y (x ∷ []) ≡ false
not_alone y x q = rw q refl

pub distinct_more : (xs : List Name) (x : Name) → AreDistinct xs → is_among x xs ≡ false → AreDistinct (xs ++ x ∷ [])
distinct_more [] x d h = (refl, tt)
distinct_more (y ∷ xs) x d h = (
  among_neither y xs (x ∷ []) d.0 (not_alone y x (bytes_eq_apart_back x y (neither_left (bytes_eq x y) (is_among x xs) h))),
  distinct_more xs x d.1 (neither_right (bytes_eq x y) (is_among x xs) h),
)

-- ---- names in order

pub filter_same : (f g : Name → Bool) (xs : List Name) → ((y : Name) → is_among y xs ≡ true → f y ≡ g y) → filter f xs ≡ filter g xs
filter_same f g [] h = refl
filter_same f g (x ∷ xs) h =
    let rest = filter_same f g xs (λ y m. h y (or_right (bytes_eq y x) (is_among y xs) m)) in
    elim (cases_Bool (g x)) [
      | inl t ↦ rw (h x (among_here x xs), t) (ap (λ ys. x ∷ ys) rest)
      | inr q ↦ rw (h x (among_here x xs), q) rest
    ]

pub filter_skips : {A : Type 0} (f : A → Bool) (xs : List A) (x : A) → f x ≡ false → filter f (xs ++ x ∷ []) ≡ filter f xs
filter_skips {A} f xs x q =
    let none : filter f (x ∷ []) ≡ [] = rw q refl in
    filter-append f xs (x ∷ []) ∙ ap (λ (zs : List A). filter f xs ++ zs) none ∙ append-nil (filter f xs)

pub filter_takes : {A : Type 0} (f : A → Bool) (xs : List A) (x : A) → f x ≡ true → filter f (xs ++ x ∷ []) ≡ filter f xs ++ x ∷ []
filter_takes {A} f xs x t =
    let one : filter f (x ∷ []) ≡ x ∷ [] = rw t refl in
    filter-append f xs (x ∷ []) ∙ ap (λ (zs : List A). filter f xs ++ zs) one

-- the names of some things stay in order ..
pub order_kept : (rs ns : List Name) (x : Name) → is_among x rs ≡ false → filter (λ y. is_among y rs) ns ≡ rs → filter (λ y. is_among y rs) (ns ++ x ∷ []) ≡ rs
order_kept rs ns x q o = filter_skips (λ y. is_among y rs) ns x q ∙ o

-- .. and with one more of them
pub order_more : (rs ns : List Name) (x : Name) → is_among x ns ≡ false → filter (λ y. is_among y rs) ns ≡ rs
    → filter (λ y. is_among y (rs ++ x ∷ [])) (ns ++ x ∷ []) ≡ rs ++ x ∷ []
order_more rs ns x new o =
    let same : (y : Name) → is_among y ns ≡ true → is_among y (rs ++ x ∷ []) ≡ is_among y rs = λ y m.
    among_append y rs (x ∷ []) ∙ ap (λ (b : Bool). is_among y rs || b) (not_alone y x (bytes_eq_apart_back x y (apart_by_membership x y ns new m))) ∙ or_false (is_among y rs) in
    filter_takes (λ y. is_among y (rs ++ x ∷ [])) ns x (among_behind x rs (x ∷ []) (among_here x []))
    ∙ ap (λ (zs : List Name). zs ++ x ∷ []) (filter_same (λ y. is_among y (rs ++ x ∷ [])) (λ y. is_among y rs) ns same ∙ o)

-- ---- ports in front

pub first_kept : (ps : List Port) (ns ms : List Name) → map (λ p. p.name) ps ≡ take (length ps) ns → map (λ p. p.name) ps ≡ take (length ps) (ns ++ ms)
first_kept [] ns ms h = refl
first_kept (p ∷ ps) [] ms h = absurd (cc)
first_kept (p ∷ ps) (x ∷ ns) ms h =
    let e : p.name ≡ x = cc in
    let g : map (λ p. p.name) ps ≡ take (length ps) ns = cc in
    ap₂ (λ y ys. y ∷ ys) e (first_kept ps ns ms g)

all_first : (ps : List Port) → map (λ p. p.name) ps ≡ take (length ps) (map (λ p. p.name) ps)
all_first [] = refl
all_first (p ∷ ps) = ap (λ ys. p.name ∷ ys) (all_first ps)

pub ports_first_more : (ps : List Port) (p : Port) (ns : List Name) → map (λ p. p.name) ps ++ p.name ∷ [] ≡ ns → map (λ p. p.name) (ps ++ p ∷ []) ≡ take (length (ps ++ p ∷ [])) ns
ports_first_more ps p ns h =
    all_first (ps ++ p ∷ []) ∙ ap (λ (xs : List Name). take (length (ps ++ p ∷ [])) xs) (map-append (λ (p : Port). p.name) ps (p ∷ []) ∙ h)

-- ---- a name is declared exactly where something has it

pub four_parts : (x : Name) (a b c d : List Name) → is_among x (a ++ b ++ c ++ d) ≡ (((is_among x a || is_among x b) || is_among x c) || is_among x d)
four_parts x a b c d =
    among_append x (a ++ b ++ c) d
    ∙ ap (λ q. q || is_among x d) (among_append x (a ++ b) c ∙ ap (λ q. q || is_among x c) (among_append x a b))

to_first : (a b c d x : Bool) → ((((a || b) || c) || d) || x) ≡ ((((a || x) || b) || c) || d)
to_first true b c d x = refl
to_first false true c d x = simp or_true
to_first false false true d x = simp or_true
to_first false false false true x = simp or_true
to_first false false false false true = refl
to_first false false false false false = refl

to_second : (a b c d x : Bool) → ((((a || b) || c) || d) || x) ≡ (((a || (b || x)) || c) || d)
to_second true b c d x = refl
to_second false true c d x = refl
to_second false false true d x = simp or_true
to_second false false false true x = simp or_true
to_second false false false false true = refl
to_second false false false false false = refl

to_third : (a b c d x : Bool) → ((((a || b) || c) || d) || x) ≡ (((a || b) || (c || x)) || d)
to_third true b c d x = refl
to_third false true c d x = refl
to_third false false true d x = refl
to_third false false false true x = simp or_true
to_third false false false false true = refl
to_third false false false false false = refl

module _ (ns a b c d : List Name) (x : Name) (h : (y : Name) → is_among y ns ≡ is_among y (a ++ b ++ c ++ d)) where
  before : (y : Name) → is_among y (ns ++ x ∷ []) ≡ ((((is_among y a || is_among y b) || is_among y c) || is_among y d) || is_among y (x ∷ []))
  before y = among_append y ns (x ∷ []) ∙ ap (λ q. q || is_among y (x ∷ [])) (h y ∙ four_parts y a b c d)

  pub first_declared_more : (y : Name) → is_among y (ns ++ x ∷ []) ≡ is_among y ((a ++ x ∷ []) ++ b ++ c ++ d)
  first_declared_more y =
      before y ∙ to_first (is_among y a) (is_among y b) (is_among y c) (is_among y d) (is_among y (x ∷ []))
      ∙ sym (four_parts y (a ++ x ∷ []) b c d ∙ ap (λ q. ((q || is_among y b) || is_among y c) || is_among y d) (among_append y a (x ∷ [])))

  pub second_declared_more : (y : Name) → is_among y (ns ++ x ∷ []) ≡ is_among y (a ++ (b ++ x ∷ []) ++ c ++ d)
  second_declared_more y =
      before y ∙ to_second (is_among y a) (is_among y b) (is_among y c) (is_among y d) (is_among y (x ∷ []))
      ∙ sym (four_parts y a (b ++ x ∷ []) c d ∙ ap (λ q. ((is_among y a || q) || is_among y c) || is_among y d) (among_append y b (x ∷ [])))

  pub third_declared_more : (y : Name) → is_among y (ns ++ x ∷ []) ≡ is_among y (a ++ b ++ (c ++ x ∷ []) ++ d)
  third_declared_more y =
      before y ∙ to_third (is_among y a) (is_among y b) (is_among y c) (is_among y d) (is_among y (x ∷ []))
      ∙ sym (four_parts y a b (c ++ x ∷ []) d ∙ ap (λ q. ((is_among y a || is_among y b) || q) || is_among y d) (among_append y c (x ∷ [])))

  pub fourth_declared_more : (y : Name) → is_among y (ns ++ x ∷ []) ≡ is_among y (a ++ b ++ c ++ (d ++ x ∷ []))
  fourth_declared_more y =
      before y ∙ sym (or_assoc ((is_among y a || is_among y b) || is_among y c) (is_among y d) (is_among y (x ∷ [])))
      ∙ sym (four_parts y a b c (d ++ x ∷ []) ∙ ap (λ q. ((is_among y a || is_among y b) || is_among y c) || q) (among_append y d (x ∷ [])))
