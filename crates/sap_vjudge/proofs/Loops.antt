-- Loops over lists of what has faults, each by what is known when it comes.
use Rattle.sap_lemmas.proofs.Common.{◌≡◌, ◌∙◌, ℕ, zero, suc, ◌+◌, ◌<◌, ◌≤◌, List, [], ◌∷◌, ◌++◌, length, get_or, drop, sym, ap, ap₂, arith, add-one, Option, drop_all}
use Rattle.sap_vjudge.specs.Best.{Fault, best_of}
use Rattle.sap_vjudge.proofs.Noting.{best_of-append, best_of-none}

module _ {A : Type 0} where
  pub here : (xs : List A) (n : ℕ) (d : A) → n < length xs → d ≡ get_or xs n d → drop n xs ≡ d ∷ drop (n + 1) xs
  here [] n d h is = absurd (omega arith)
  here (x ∷ xs) zero d h is = ap (λ (y : A). y ∷ xs) (sym is)
  here (x ∷ xs) (suc n) d h is = let r = here xs n d (omega arith) is in simp (add-one) (simp (add-one) at r)

module _ {K A : Type 0} (all : K → List A → List Fault) (one : K → A → List Fault) (next : K → A → K) (none : (k : K) → all k [] ≡ [])
    (cons : (k : K) (x : A) (xs : List A) → all k (x ∷ xs) ≡ one k x ++ all (next k x) xs) where
  pub loop_step : (xs : List A) (n : ℕ) (d : A) (k l : K) (o m : Option Fault) → n < length xs → d ≡ get_or xs n d → m ≡ best_of o (one k d) → l ≡ next k d
      → best_of m (all l (drop (n + 1) xs)) ≡ best_of o (all k (drop n xs))
  loop_step xs n d k l o m h is best known =
      ap₂ (λ (p : Option Fault) (q : K). best_of p (all q (drop (n + 1) xs))) best known ∙ sym (best_of-append o (one k d) (all (next k d) (drop (n + 1) xs)))
      ∙ ap (best_of o) (sym (cons k d (drop (n + 1) xs))) ∙ ap (λ (ys : List A). best_of o (all k ys)) (sym (here xs n d h is))

  pub loop_end : (xs : List A) (n : ℕ) (k : K) (m o : Option Fault) → length xs ≤ n → best_of m (all k (drop n xs)) ≡ o → m ≡ o
  loop_end xs n k m o h e = sym (best_of-none m) ∙ ap (best_of m) (sym (none k)) ∙ ap (λ (ys : List A). best_of m (all k ys)) (sym (drop_all n xs h)) ∙ e

module _ {K A : Type 0} (after : K → List A → K) (next : K → A → K) (none : (k : K) → after k [] ≡ k)
    (cons : (k : K) (x : A) (xs : List A) → after k (x ∷ xs) ≡ after (next k x) xs) where
  pub after_step : (xs : List A) (n : ℕ) (d : A) (k l : K) → n < length xs → d ≡ get_or xs n d → l ≡ next k d
      → after l (drop (n + 1) xs) ≡ after k (drop n xs)
  after_step xs n d k l h is known =
      ap (λ (q : K). after q (drop (n + 1) xs)) known ∙ sym (cons k d (drop (n + 1) xs)) ∙ ap (after k) (sym (here xs n d h is))

  pub after_end : (xs : List A) (n : ℕ) (k l : K) → length xs ≤ n → after k (drop n xs) ≡ l → k ≡ l
  after_end xs n k l h e = sym (none k) ∙ ap (after k) (sym (drop_all n xs h)) ∙ e
