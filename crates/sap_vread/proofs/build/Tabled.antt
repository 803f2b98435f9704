-- Loops over lists of what has a number.
use Rattle.sap_lemmas.proofs.Common.{◌≡◌, ◌∙◌, ℕ, ◌+◌, ◌<◌, ◌≤◌, List, [], ◌∷◌, length, get_or, drop, refl, ap, sym, Option, Some, None, drop_all}
use Rattle.sap_vtext.specs.Modules.{first_of}
use Rattle.sap_vjudge.proofs.Loops.{here}

pub first_assoc : {A : Type 0} (a b c : Option A) → first_of (first_of a b) c ≡ first_of a (first_of b c)
first_assoc None b c = refl
first_assoc (Some x) b c = refl

pub first_none : {A : Type 0} (a : Option A) → first_of a None ≡ a
first_none None = refl
first_none (Some x) = refl

module _ {A : Type 0} where
  -- `all` has what the first of some elements says, the first of which has a place
  pub noted_step : (all : ℕ → List A → Option ℕ) (one : ℕ → A → Option ℕ) → ((k : ℕ) (x : A) (xs : List A) → all k (x ∷ xs) ≡ first_of (one k x) (all (k + 1) xs))
      → (xs : List A) (n k : ℕ) (d : A) (old new first : Option ℕ) → n < length xs → d ≡ get_or xs n d → new ≡ first_of old (one k d) → first_of old (all k (drop n xs)) ≡ first
      → first_of new (all (k + 1) (drop (n + 1) xs)) ≡ first
  noted_step all one cons xs n k d old new first h is e invariant =
      ap (λ o. first_of o (all (k + 1) (drop (n + 1) xs))) e ∙ first_assoc old (one k d) (all (k + 1) (drop (n + 1) xs))
      ∙ ap (first_of old) (sym (cons k d (drop (n + 1) xs))) ∙ ap (λ (ys : List A). first_of old (all k ys)) (sym (here xs n d h is)) ∙ invariant

  pub noted_end : (all : List A → Option ℕ) → all [] ≡ None → (xs : List A) (n : ℕ) (o m : Option ℕ) → length xs ≤ n → first_of o (all (drop n xs)) ≡ m → o ≡ m
  noted_end all none xs n o m h e =
      sym (first_none o) ∙ ap (first_of o) (sym none) ∙ ap (λ (ys : List A). first_of o (all ys)) (sym (drop_all n xs h)) ∙ e
