-- The numbers below n, and what tests say of them.
use Rattle.std.proofs.Common.{◌≡◌, ℕ, zero, suc, ◌+◌, ◌<◌, ◌≤◌, Bool, true, false, Option, Some, None, List, [], ◌∷◌, length, refl, sym, ap, ap₂, ◌∙◌, subst, inl, inr, arith}
use Rattle.std.specs.Prelude.{find, unwrap_or, filter, All, MatchOption}
use Rattle.std.specs.List.{list_all, list_any, range_with_len}
use Rattle.std.proofs.lemmas.Bool.{and_parts, and_from, cases_Bool, cases_eq, cond-true, cond-false, both_ways, or_left, or_right, or_cases, cond_both, false_from_ne_true}
use Rattle.std.proofs.lemmas.List.Elements.{All-weaker, All-cons}
use Rattle.sap_lattice.specs.Levels.{numbers, every, first}

-- what passes everywhere passes at each number
every_at_from : (test : ℕ → Bool) (a n : ℕ) → list_all test (range_with_len a n) ≡ true → (k : ℕ) → a ≤ k → k < a + n → test k ≡ true
every_at_from test a zero h k low high = absurd (omega arith)
every_at_from test a (suc n) h k low high =
    let parts = and_parts (test a) (list_all test (range_with_len (a + 1) n)) h in
    elim (cases_eq a k) [
      | inl e ↦ subst (λ j. test j ≡ true) e parts.0
      | inr ne ↦ every_at_from test (a + 1) n parts.1 k (omega arith) (omega arith)
    ]

pub every_at : (test : ℕ → Bool) (n : ℕ) → every n test ≡ true → (k : ℕ) → k < n → test k ≡ true
every_at test n h k high = every_at_from test 0 n h k (omega arith) (omega arith)

every_from_at : (test : ℕ → Bool) (a n : ℕ) → ((k : ℕ) → a ≤ k → k < a + n → test k ≡ true) → list_all test (range_with_len a n) ≡ true
every_from_at test a zero h = refl
every_from_at test a (suc n) h =
    and_from (test a) (list_all test (range_with_len (a + 1) n)) (h a (omega arith) (omega arith))
    (every_from_at test (a + 1) n (λ k low high. h k (omega arith) (omega arith)))

pub every_from : (test : ℕ → Bool) (n : ℕ) → ((k : ℕ) → k < n → test k ≡ true) → every n test ≡ true
every_from test n h = every_from_at test 0 n (λ k low high. h k (omega arith))

-- what passes at a number passes somewhere
any_from_at : (test : ℕ → Bool) (a n k : ℕ) → a ≤ k → k < a + n → test k ≡ true → list_any test (range_with_len a n) ≡ true
any_from_at test a zero k low high h = absurd (omega arith)
any_from_at test a (suc n) k low high h =
    elim (cases_eq a k) [
      | inl e ↦ or_left (test a) (list_any test (range_with_len (a + 1) n)) (subst (λ j. test j ≡ true) (sym e) h)
      | inr ne ↦ or_right (test a) (list_any test (range_with_len (a + 1) n)) (any_from_at test (a + 1) n k (omega arith) (omega arith) h)
    ]

pub any_from : (test : ℕ → Bool) (n k : ℕ) → k < n → test k ≡ true → list_any test (numbers n) ≡ true
any_from test n k high h = any_from_at test 0 n k (omega arith) (omega arith) h

-- what passes somewhere passes at a number
any_at_from : (test : ℕ → Bool) (a n : ℕ) → list_any test (range_with_len a n) ≡ true → (k : ℕ) × (a ≤ k) × (k < a + n) × (test k ≡ true)
any_at_from test a zero h = absurd (both_ways false refl h)
any_at_from test a (suc n) h =
    elim (or_cases (test a) (list_any test (range_with_len (a + 1) n)) h) [
      | inl e ↦ (a, omega arith, omega arith, e)
      | inr e ↦ let r = any_at_from test (a + 1) n e in (r.0, omega (arith, r.1), omega (arith, r.2), r.3)
    ]

pub any_at : (test : ℕ → Bool) (n : ℕ) → list_any test (numbers n) ≡ true → (k : ℕ) × (k < n) × (test k ≡ true)
any_at test n h = let r = any_at_from test 0 n h in (r.0, omega (arith, r.2), r.3)

-- what passes nowhere
pub none_from : (test : ℕ → Bool) (n : ℕ) → ((k : ℕ) → k < n → test k ≡ true → ⊥) → list_any test (numbers n) ≡ false
none_from test n h = false_from_ne_true _ (λ e. let r = any_at test n e in h r.0 r.1 r.2)

-- the first number that passes, passes
first_at_from : (test : ℕ → Bool) (a n k : ℕ) → a ≤ k → k < a + n → test k ≡ true
    → (test (unwrap_or (find test (range_with_len a n)) 0) ≡ true) × (unwrap_or (find test (range_with_len a n)) 0 < a + n)
first_at_from test a zero k low high h = absurd (omega arith)
first_at_from test a (suc n) k low high h =
    let P : Option ℕ → Type 0 = λ o. (test (unwrap_or o 0) ≡ true) × (unwrap_or o 0 < a + suc n) in
    elim (cases_Bool (test a)) [
      | inl e ↦ subst P (sym (cond-true (test a) (Some a) (find test (range_with_len (a + 1) n)) e)) (e, omega arith)
      | inr e ↦
          subst P (sym (cond-false (test a) (Some a) (find test (range_with_len (a + 1) n)) e))
          (elim (cases_eq a k) [
            | inl same ↦ absurd (both_ways (test a) e (subst (λ j. test j ≡ true) (sym same) h))
            | inr ne ↦ let r = first_at_from test (a + 1) n k (omega arith) (omega arith) h in (r.0, omega (arith, r.1))
          ])
    ]

pub first_passes : (test : ℕ → Bool) (n k : ℕ) → k < n → test k ≡ true → test (first n test) ≡ true
first_passes test n k high h = (first_at_from test 0 n k (omega arith) (omega arith) h).0

pub first_below : (test : ℕ → Bool) (n k : ℕ) → k < n → test k ≡ true → first n test < n
first_below test n k high h = let r = (first_at_from test 0 n k (omega arith) (omega arith) h).1 in omega (arith, r)

-- a filter that keeps nothing, and one that keeps one number
filter_none_from : (test : ℕ → Bool) (a n : ℕ) → ((k : ℕ) → a ≤ k → k < a + n → test k ≡ false) → filter test (range_with_len a n) ≡ []
filter_none_from test a zero h = refl
filter_none_from test a (suc n) h =
    cond-false (test a) (a ∷ filter test (range_with_len (a + 1) n)) (filter test (range_with_len (a + 1) n)) (h a (omega arith) (omega arith))
    ∙ filter_none_from test (a + 1) n (λ k low high. h k (omega arith) (omega arith))

filter_one_from : (test : ℕ → Bool) (a n j : ℕ) → a ≤ j → j < a + n → test j ≡ true → ((k : ℕ) → k < a + n → test k ≡ true → k ≡ j) → filter test (range_with_len a n) ≡ j ∷ []
filter_one_from test a zero j low high here only = absurd (omega arith)
filter_one_from test a (suc n) j low high here only =
    elim (cases_eq a j) [
      | inl e ↦
          cond-true (test a) (a ∷ filter test (range_with_len (a + 1) n)) (filter test (range_with_len (a + 1) n)) (subst (λ k. test k ≡ true) (sym e) here)
          ∙ ap₂ (λ (k : ℕ) (ks : List ℕ). k ∷ ks) e
          (filter_none_from test (a + 1) n (λ k l u. false_from_ne_true (test k) (λ t. let same = only k (omega arith) t in absurd (omega arith))))
      | inr ne ↦
          cond-false (test a) (a ∷ filter test (range_with_len (a + 1) n)) (filter test (range_with_len (a + 1) n))
          (false_from_ne_true (test a) (λ t. ne (only a (omega arith) t)))
          ∙ filter_one_from test (a + 1) n j (omega arith) (omega arith) here (λ k u t. only k (omega arith) t)
    ]

pub filter_one : (test : ℕ → Bool) (n j : ℕ) → j < n → test j ≡ true → ((k : ℕ) → k < n → test k ≡ true → k ≡ j) → filter test (numbers n) ≡ j ∷ []
filter_one test n j high here only = filter_one_from test 0 n j (omega arith) (omega arith) here (λ k u t. only k (omega arith) t)

-- a filter of the numbers below n keeps numbers below n, and fewer than n where one fails
filter_small_from : (test : ℕ → Bool) (a n : ℕ) → All (λ m. m < a + n) (filter test (range_with_len a n))
filter_small_from test a zero = λ k d low. absurd (omega arith)
filter_small_from test a (suc n) =
    let rest : List ℕ = filter test (range_with_len (a + 1) n) in
    let Small : ℕ → Type 0 = λ m. m < a + suc n in
    let kept : All Small rest = All-weaker (λ m. m < a + 1 + n) Small (λ m h. omega arith) rest (filter_small_from test (a + 1) n) in
    let low : a < a + suc n = omega arith in
    cond_both (test a) (a ∷ rest) rest (All Small) (λ _. All-cons Small a rest low kept) (λ _. kept)

pub filter_small : (test : ℕ → Bool) (n : ℕ) → All (λ m. m < n) (filter test (numbers n))
filter_small test n = All-weaker (λ m. m < 0 + n) (λ m. m < n) (λ m h. omega arith) (filter test (numbers n)) (filter_small_from test 0 n)

filter_few_from : (test : ℕ → Bool) (a n : ℕ) → length (filter test (range_with_len a n)) ≤ n
filter_few_from test a zero = omega arith
filter_few_from test a (suc n) =
    let rest : List ℕ = filter test (range_with_len (a + 1) n) in
    let ih = filter_few_from test (a + 1) n in
    cond_both (test a) (a ∷ rest) rest (λ ks. length ks ≤ suc n) (λ _. omega arith) (λ _. omega arith)

filter_fewer_from : (test : ℕ → Bool) (a n k : ℕ) → a ≤ k → k < a + n → test k ≡ false → length (filter test (range_with_len a n)) < n
filter_fewer_from test a zero k low high h = absurd (omega arith)
filter_fewer_from test a (suc n) k low high h =
    let rest : List ℕ = filter test (range_with_len (a + 1) n) in
    let few = filter_few_from test (a + 1) n in
    elim (cases_eq a k) [
      | inl e ↦
          let same = ap length (cond-false (test a) (a ∷ rest) rest (subst (λ j. test j ≡ false) (sym e) h)) in
          omega (arith, same)
      | inr ne ↦
          let ih = filter_fewer_from test (a + 1) n k (omega arith) (omega arith) h in
          cond_both (test a) (a ∷ rest) rest (λ ks. length ks < suc n) (λ _. omega arith) (λ _. omega arith)
    ]

pub filter_fewer : (test : ℕ → Bool) (n k : ℕ) → k < n → test k ≡ false → length (filter test (numbers n)) < n
filter_fewer test n k high h = filter_fewer_from test 0 n k (omega arith) (omega arith) h

-- what a search for the first that passes says
find_cases_from : (test : ℕ → Bool) (a n : ℕ) → MatchOption (find test (range_with_len a n)) ((k : ℕ) → a ≤ k → k < a + n → test k ≡ false) (λ k. (k < a + n) × (test k ≡ true))
find_cases_from test a zero = λ k low high. absurd (omega arith)
find_cases_from test a (suc n) =
    let rest : Option ℕ = find test (range_with_len (a + 1) n) in
    let P : Option ℕ → Type 0 = λ o. MatchOption o ((k : ℕ) → a ≤ k → k < a + suc n → test k ≡ false) (λ k. (k < a + suc n) × (test k ≡ true)) in
    cond_both (test a) (Some a) rest P (λ e. (omega arith, e)) (λ e. go e rest (find_cases_from test (a + 1) n))
  where
    go : test a ≡ false → (o : Option ℕ) → MatchOption o ((k : ℕ) → a + 1 ≤ k → k < a + 1 + n → test k ≡ false) (λ k. (k < a + 1 + n)
        × (test k ≡ true)) → MatchOption o ((k : ℕ) → a ≤ k → k < a + suc n → test k ≡ false) (λ k. (k < a + suc n) × (test k ≡ true))
    go e None h = λ k low high.
        elim (cases_eq a k) [
          | inl same ↦ subst (λ j. test j ≡ false) same e
          | inr ne ↦ h k (omega arith) (omega arith)
        ]
    go e (Some k) h = (let low = h.0 in omega arith, h.1)

pub find_cases : (test : ℕ → Bool) (n : ℕ) (r : Option ℕ) → r ≡ find test (numbers n) → MatchOption r ((k : ℕ) → k < n → test k ≡ false) (λ k. (k < n) × (test k ≡ true))
find_cases test n None e = λ k low. subst (λ o. MatchOption o ((k : ℕ) → 0 ≤ k → k < 0 + n → test k ≡ false) (λ k. (k < 0 + n)
    × (test k ≡ true))) (sym e) (find_cases_from test 0 n) k (omega arith) (omega arith)
find_cases test n (Some k) e =
    let found = subst (λ o. MatchOption o ((k : ℕ) → 0 ≤ k → k < 0 + n → test k ≡ false) (λ k. (k < 0 + n) × (test k ≡ true))) (sym e) (find_cases_from test 0 n) in
    (let low = found.0 in omega arith, found.1)
