-- The best of some things is their first.
use Rattle.sap_lemmas.proofs.Common.{◌≡◌, inl, inr, List, [], ◌∷◌, ◌++◌, Option, Some, None, Bool, true, false, refl, ap, sym, subst, append_assoc, cases_Bool, append-nil, if◌then◌else◌}
use Rattle.sap_text.specs.Best.{better, best_of, StandsIn, BeforeAll, First}

module _ {A : Type 0} (comes_first : A → A → Bool) where
  pub best_of-append : (o : Option A) (a b : List A) → best_of comes_first o (a ++ b) ≡ best_of comes_first (best_of comes_first o a) b
  unfolding best_of
  best_of-append o [] b = refl
  best_of-append o (x ∷ a) b = best_of-append (better comes_first o x) a b

  pub best_of-none : (o : Option A) → best_of comes_first o [] ≡ o
  unfolding best_of
  best_of-none o = refl

  pub best_of-one : (o : Option A) (x : A) → best_of comes_first o (x ∷ []) ≡ better comes_first o x
  unfolding best_of
  best_of-one o x = refl

module _ {A : Type 0} where
  stands-more : (a x : A) (xs : List A) → StandsIn a xs → StandsIn a (xs ++ x ∷ [])
  stands-more a x [] h = absurd h
  stands-more a x (y ∷ xs) (inl e) = inl e
  stands-more a x (y ∷ xs) (inr h) = inr (stands-more a x xs h)

  stands-last : (x : A) (xs : List A) → StandsIn x (xs ++ x ∷ [])
  stands-last x [] = inl refl
  stands-last x (y ∷ xs) = inr (stands-last x xs)

-- by a test that says of two which comes first
module _ {A : Type 0} (comes_first : A → A → Bool) (Before : A → A → Type 0)
    (first-true : (a b : A) → comes_first a b ≡ true → Before a b) (first-false : (a b : A) → comes_first a b ≡ false → Before b a)
    (before-self : (a : A) → Before a a) (before-trans : (a b c : A) → Before a b → Before b c → Before a c) where
  before_all-through : (a b : A) (xs : List A) → Before a b → BeforeAll Before b xs → BeforeAll Before a xs
  before_all-through a b [] h all = tt
  before_all-through a b (x ∷ xs) h all = (before-trans a b x h all.0, before_all-through a b xs h all.1)

  before_all-more : (a x : A) (xs : List A) → BeforeAll Before a xs → Before a x → BeforeAll Before a (xs ++ x ∷ [])
  before_all-more a x [] all h = (h, tt)
  before_all-more a x (y ∷ xs) all h = (all.0, before_all-more a x xs all.1 h)

  -- one more
  first-better : (o : Option A) (x : A) (xs : List A) → First Before o xs → First Before (better comes_first o x) (xs ++ x ∷ [])
  first-better None x xs none = subst (λ (l : List A). First Before (Some x) (l ++ x ∷ [])) (sym none) (inl refl, (before-self x, tt))
  first-better (Some a) x xs first = elim (cases_Bool (comes_first a x)) [ inl h ↦ earlier h | inr h ↦ later h ]
    where
      earlier : comes_first a x ≡ true → First Before (better comes_first (Some a) x) (xs ++ x ∷ [])
      earlier h = subst (λ (o : Option A). First Before o (xs ++ x ∷ [])) (sym (ap (λ (b : Bool). if b then Some a else Some x) h))
          (stands-more a x xs first.0, before_all-more a x xs first.1 (first-true a x h))

      later : comes_first a x ≡ false → First Before (better comes_first (Some a) x) (xs ++ x ∷ [])
      later h = subst (λ (o : Option A). First Before o (xs ++ x ∷ [])) (sym (ap (λ (b : Bool). if b then Some a else Some x) h))
          (stands-last x xs, before_all-more x x xs (before_all-through x a xs (first-false a x h) first.1) (before-self x))

  first-on : (o : Option A) (seen xs : List A) → First Before o seen → First Before (best_of comes_first o xs) (seen ++ xs)
  unfolding best_of
  first-on o seen [] h = subst (λ (l : List A). First Before o l) (sym (append-nil seen)) h
  first-on o seen (x ∷ xs) h =
      subst (λ (l : List A). First Before (best_of comes_first (better comes_first o x) xs) l) (append_assoc seen (x ∷ []) xs)
      (first-on (better comes_first o x) (seen ++ x ∷ []) xs (first-better o x seen h))

  -- the best of some things is the first of them
  pub best_of-First : (xs : List A) → First Before (best_of comes_first None xs) xs
  best_of-First xs = first-on None [] xs refl

  -- no best, none
  pub none_first : (xs : List A) → None ≡ best_of comes_first None xs → xs ≡ []
  none_first xs h = subst (λ (o : Option A). First Before o xs) (sym h) (best_of-First xs)

  pub some_first : (xs : List A) (a : A) → Some a ≡ best_of comes_first None xs → First Before (Some a) xs
  some_first xs a h = subst (λ (o : Option A). First Before o xs) (sym h) (best_of-First xs)

  pub before_all-at : (a x : A) (xs : List A) → BeforeAll Before a xs → StandsIn x xs → Before a x
  before_all-at a x [] all h = absurd h
  before_all-at a x (y ∷ xs) all (inl e) = subst (λ (z : A). Before a z) (sym e) all.0
  before_all-at a x (y ∷ xs) all (inr h) = before_all-at a x xs all.1 h
