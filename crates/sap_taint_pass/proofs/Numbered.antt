-- Names by numbers.
use Rattle.sap_lemmas.proofs.Common.{◌≡◌, ◌<◌, ◌≤◌, ℕ, ◌+◌, zero, suc, List, ◌∷◌, ◌++◌, map, true, false, ap, ap₂, ◌==◌, ◌⊎◌, subst, inl, inr, arith, bytes_eq, cases_Bool, or_right, equal_of_test, above_unequal, equal_of_bytes_eq}
use Rattle.sap_maps.specs.Maps.{Name}
use Rattle.sap_net.specs.Names.{is_among, AreDistinct}
use Rattle.sap_net.proofs.NamesLemmas.{among_here}
use Rattle.sap_taint_pass.specs.Tainted.{numbers_from}

-- some names of a numbering
abbrev pub some_names : (ℕ → Name) → (k count : ℕ) → List Name
some_names helping k count = map helping (numbers_from k count)

-- no two numbers have one name
abbrev pub AreApart : (ℕ → Name) → Type 0
AreApart helping = (j k : ℕ) → helping j ≡ helping k → j ≡ k

pub apart_names : (helping : ℕ → Name) → AreApart helping → (j k : ℕ) → j < k → bytes_eq (helping j) (helping k) ≡ false
apart_names helping one j k h =
    elim (cases_Bool (bytes_eq (helping j) (helping k))) [
      | inl t ↦ (let e = one j k (equal_of_bytes_eq (helping j) (helping k) t) in absurd (omega arith))
      | inr f ↦ f
    ]

-- one of them has a number among theirs
pub numbered : (helping : ℕ → Name) (k count : ℕ) (x : Name) → is_among x (some_names helping k count) ≡ true → (i : ℕ) × (k ≤ i) × (i < k + count) × (x ≡ helping i)
numbered helping k zero x h = absurd (cc)
numbered helping k (suc count) x h =
    elim (cases_Bool (bytes_eq x (helping k))) [
      | inl t ↦ (k, omega arith, omega arith, equal_of_bytes_eq x (helping k) t)
      | inr f ↦ (let r = numbered helping (k + 1) count x (rw f at h) in (r.0, omega (arith, r.1), omega (arith, r.2), r.3))
    ]

pub one_of_some : (helping : ℕ → Name) (k count i : ℕ) → k ≤ i → i < k + count → is_among (helping i) (some_names helping k count) ≡ true
one_of_some helping k zero i a b = absurd (omega arith)
one_of_some helping k (suc count) i a b =
    elim (cases_Bool (k == i)) [
      | inl t ↦ (let e : k ≡ i = equal_of_test k i t in
          subst (λ j. is_among (helping j) (helping k ∷ some_names helping (k + 1) count) ≡ true) e (among_here (helping k) (some_names helping (k + 1) count)))
      | inr f ↦ or_right (bytes_eq (helping i) (helping k)) _ (one_of_some helping (k + 1) count i (above_unequal k i a f) (omega arith))
    ]

pub other_number : (helping : ℕ → Name) → AreApart helping → (k count i : ℕ) → (i < k) ⊎ (k + count ≤ i) → is_among (helping i) (some_names helping k count) ≡ false
other_number helping one k count i h =
    elim (cases_Bool (is_among (helping i) (some_names helping k count))) [
      | inl t ↦ (
          let r = numbered helping k count (helping i) t in
          let e = one i r.0 r.3 in
          let a = r.1 in
          let b = r.2 in
          absurd (elim h [ inl l ↦ omega arith | inr g ↦ omega arith ]))
      | inr f ↦ f
    ]

pub numbers_distinct : (helping : ℕ → Name) → AreApart helping → (k count : ℕ) → AreDistinct (some_names helping k count)
numbers_distinct helping one k zero = tt
numbers_distinct helping one k (suc count) = (other_number helping one (k + 1) count k (inl (omega arith)), numbers_distinct helping one (k + 1) count)

pub numbers_both : (helping : ℕ → Name) (k a b : ℕ) → some_names helping k (a + b) ≡ some_names helping k a ++ some_names helping (k + a) b
numbers_both helping k zero b = ap₂ (some_names helping) (omega arith) (omega arith)
numbers_both helping k (suc a) b =
    let e : suc a + b ≡ suc (a + b) = omega arith in
    let g : k + suc a ≡ k + 1 + a = omega arith in
    rw (e, g) (ap (λ ns. helping k ∷ ns) (numbers_both helping (k + 1) a b))
