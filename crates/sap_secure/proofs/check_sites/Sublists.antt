-- Lists of numbers with some left out.
use Rattle.sap_lemmas.proofs.Common.{◌≡◌, ℕ, zero, suc, ◌+◌, ◌<◌, ◌≤◌, true, cond, List, [], ◌∷◌, nat_eq, refl, ap, arith, inl, inr, count_by, cases_Bool, eqb-true, ne_eqb, sum_by-cons}
use Rattle.sap_meaning.specs.Sites.{numbers_from, Sublist}

pub same : (xs : List ℕ) → Sublist xs xs
same [] = tt
same (x ∷ xs) = inl (refl, same xs)

pub none : (xs ys : List ℕ) → Sublist xs [] → Sublist xs ys
none [] ys h = tt
none (x ∷ xs) ys h = absurd h

-- how often a number stands in a list
abbrev pub occurs : ℕ → List ℕ → ℕ
occurs k ns = count_by (λ n. nat_eq n k) ns

-- one for the number itself
abbrev pub hit : ℕ → ℕ → ℕ
hit k n = cond (nat_eq n k) 1 0

pub hit_itself : (k n : ℕ) → nat_eq n k ≡ true → hit k n ≡ 1
hit_itself k n e = rw e refl

pub hit_other : (k n : ℕ) → (n ≡ k → ⊥) → hit k n ≡ 0
hit_other k n h = rw (ne_eqb n k h) refl

pub occurs-cons : (k n : ℕ) (ns : List ℕ) → occurs k (n ∷ ns) ≡ hit k n + occurs k ns
occurs-cons k n ns = sum_by-cons (λ n. cond (nat_eq n k) 1 0) n ns

pub fewer : (k : ℕ) (xs ys : List ℕ) → Sublist xs ys → occurs k xs ≤ occurs k ys
fewer k [] ys h = let z : occurs k [] ≡ 0 = refl in omega arith
fewer k (x ∷ xs) [] h = absurd h
fewer k (x ∷ xs) (y ∷ ys) h =
    let a : occurs k (x ∷ xs) ≡ hit k x + occurs k xs = occurs-cons k x xs in
    let b : occurs k (y ∷ ys) ≡ hit k y + occurs k ys = occurs-cons k y ys in
    elim h [
      | inl q ↦
          let c : hit k x ≡ hit k y = ap (hit k) q.0 in
          let r : occurs k xs ≤ occurs k ys = fewer k xs ys q.1 in
          omega arith
      | inr q ↦
          let r : occurs k (x ∷ xs) ≤ occurs k ys = fewer k (x ∷ xs) ys q in
          omega arith
    ]

none_under : (k m n : ℕ) → k < m → occurs k (numbers_from m n) ≡ 0
none_under k m zero l = refl
none_under k m (suc n) l =
    let a : occurs k (m ∷ numbers_from (suc m) n) ≡ hit k m + occurs k (numbers_from (suc m) n) = occurs-cons k m (numbers_from (suc m) n) in
    let c : hit k m ≡ 0 = hit_other k m (λ e. omega arith) in
    let r : occurs k (numbers_from (suc m) n) ≡ 0 = none_under k (suc m) n (omega arith) in
    omega arith

pub at_most_once : (k m n : ℕ) → occurs k (numbers_from m n) ≤ 1
at_most_once k m zero = let z : occurs k [] ≡ 0 = refl in omega arith
at_most_once k m (suc n) =
    let a : occurs k (m ∷ numbers_from (suc m) n) ≡ hit k m + occurs k (numbers_from (suc m) n) = occurs-cons k m (numbers_from (suc m) n) in
    elim (cases_Bool (nat_eq m k)) [
      | inl t ↦
          let e : m ≡ k = eqb-true m k t in
          let c : hit k m ≡ 1 = hit_itself k m t in
          let r : occurs k (numbers_from (suc m) n) ≡ 0 = none_under k (suc m) n (omega arith) in
          omega arith
      | inr f ↦
          let c : hit k m ≡ 0 = rw f refl in
          let r : occurs k (numbers_from (suc m) n) ≤ 1 = at_most_once k (suc m) n in
          omega arith
    ]
