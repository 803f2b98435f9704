-- On what stands in Sites: what several crates cite.
use Rattle.sap_lemmas.proofs.Common.{◌≡◌, List, [], inl, inr, ℕ, zero, suc, ◌+◌, ◌++◌, ◌∷◌, refl, sym, ap, subst, arith, map-append}
use Rattle.sap_meaning.specs.Checks.{site_of}
use Rattle.sap_meaning.specs.Sites.{PlacedStep, site_numbers, numbers_from, RisesFrom, Sublist}

pub sublist_behind : (xs zs ys : List ℕ) → Sublist xs ys → Sublist xs (zs ++ ys)
sublist_behind [] zs ys h = tt
sublist_behind (x ∷ xs) [] ys h = h
sublist_behind (x ∷ xs) (z ∷ zs) ys h = inr (sublist_behind (x ∷ xs) zs ys h)

pub sublist_append : (as' bs cs ds : List ℕ) → Sublist as' bs → Sublist cs ds → Sublist (as' ++ cs) (bs ++ ds)
sublist_append [] bs cs ds h k = sublist_behind cs bs ds k
sublist_append (a ∷ as') [] cs ds h k = absurd h
sublist_append (a ∷ as') (b ∷ bs) cs ds h k = elim h [ inl q ↦ inl (q.0, sublist_append as' bs cs ds q.1 k) | inr q ↦ inr (sublist_append (a ∷ as') bs cs ds q k) ]

pub sublist_between : (xs as' bs gs : List ℕ) → Sublist xs (as' ++ gs) → Sublist xs ((as' ++ bs) ++ gs)
sublist_between [] as' bs gs h = tt
sublist_between (x ∷ xs) [] bs gs h = sublist_behind (x ∷ xs) bs gs h
sublist_between (x ∷ xs) (a ∷ as') bs gs h = elim h [ inl q ↦ inl (q.0, sublist_between xs as' bs gs q.1) | inr q ↦ inr (sublist_between (x ∷ xs) as' bs gs q) ]

pub sublist_front : (xs ys zs : List ℕ) → Sublist xs ys → Sublist xs (ys ++ zs)
sublist_front [] ys zs h = tt
sublist_front (x ∷ xs) [] zs h = absurd h
sublist_front (x ∷ xs) (y ∷ ys) zs h = elim h [ inl q ↦ inl (q.0, sublist_front xs ys zs q.1) | inr q ↦ inr (sublist_front (x ∷ xs) ys zs q) ]

pub numbers-append : (ks js : List PlacedStep) → site_numbers (ks ++ js) ≡ site_numbers ks ++ site_numbers js
numbers-append ks js = map-append (λ (k : PlacedStep). site_of k.step) ks js

-- numbers of some of these sites
abbrev pub AreAmong : List ℕ → List PlacedStep → Type 0
AreAmong xs ks = Sublist xs (site_numbers ks)

pub sites_behind : (xs : List ℕ) (js ks : List PlacedStep) → AreAmong xs ks → AreAmong xs (js ++ ks)
sites_behind xs js ks h = subst (λ ns. Sublist xs ns) (sym (numbers-append js ks)) (sublist_behind xs (site_numbers js) (site_numbers ks) h)

pub sites_front : (xs : List ℕ) (ks js : List PlacedStep) → AreAmong xs ks → AreAmong xs (ks ++ js)
sites_front xs ks js h = subst (λ ns. Sublist xs ns) (sym (numbers-append ks js)) (sublist_front xs (site_numbers ks) (site_numbers js) h)

pub sites_append : (xs : List ℕ) (ks : List PlacedStep) (ys : List ℕ) (js : List PlacedStep) → AreAmong xs ks → AreAmong ys js → AreAmong (xs ++ ys) (ks ++ js)
sites_append xs ks ys js h i =
    subst (λ ns. Sublist (xs ++ ys) ns) (sym (numbers-append ks js)) (sublist_append xs (site_numbers ks) ys (site_numbers js) h i)

pub sites_between : (xs : List ℕ) (ks js ms : List PlacedStep) → AreAmong xs (ks ++ ms) → AreAmong xs ((ks ++ js) ++ ms)
sites_between [] ks js ms h = tt
sites_between (x ∷ xs) [] js ms h = sites_behind (x ∷ xs) js ms h
sites_between (x ∷ xs) (k ∷ ks) js ms h = elim h [ inl q ↦ inl (q.0, sites_between xs ks js ms q.1) | inr q ↦ inr (sites_between (x ∷ xs) ks js ms q) ]

-- numbers without a gap
pub numbers_rise : (k n : ℕ) → RisesFrom k (numbers_from k n)
numbers_rise k zero = tt
numbers_rise k (suc n) = let h = numbers_rise (suc k) n in (omega arith, h)

pub numbers_join : (k m n : ℕ) → numbers_from k m ++ numbers_from (k + m) n ≡ numbers_from k (m + n)
numbers_join k zero n = let a : k + 0 ≡ k = omega arith in let b : 0 + n ≡ n = omega arith in rw (a, b) refl
numbers_join k (suc m) n =
    let a : k + suc m ≡ suc k + m = omega arith in
    let b : suc m + n ≡ suc (m + n) = omega arith in
    rw (a, b) (ap (λ (xs : List ℕ). k ∷ xs) (numbers_join (suc k) m n))
