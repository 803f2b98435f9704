-- Two lists place by place: a relation holds of all places below one, or there is a first place where it doesn't.
use Rattle.std.proofs.Common.{◌≡◌, ℕ, suc, ◌<◌, ◌≤◌, List, [], ◌∷◌, length, get_or, take, sym, subst, ◌∙◌, inl, inr, arith}
use Rattle.std.specs.List.{AllZip}
use Rattle.std.proofs.lemmas.Bool.{cases_lt}
use Rattle.std.proofs.lemmas.List.{get_or-take, length-take-le}
use Rattle.std.proofs.lemmas.List.Elements.{AllZip-get_or}

module _ {A : Type 0} (R : A → A → Type 0) (d : A) where
  pub from_places : (xs ys : List A) → length xs ≡ length ys → ((k : ℕ) → k < length xs → R (get_or xs k d) (get_or ys k d)) → AllZip R xs ys
  from_places [] [] e h = tt
  from_places [] (y ∷ ys) e h = absurd (omega arith)
  from_places (x ∷ xs) [] e h = absurd (omega arith)
  from_places (x ∷ xs) (y ∷ ys) e h = (h 0 (omega arith), from_places xs ys (omega arith) (λ k l. h (suc k) (omega arith)))

  -- of the first n places
  pub firsts : (xs ys : List A) (n : ℕ) → n ≤ length xs → n ≤ length ys → ((k : ℕ) → k < n → R (get_or xs k d) (get_or ys k d)) → AllZip R (take n xs) (take n ys)
  firsts xs ys n a b h =
      from_places (take n xs) (take n ys) (length-take-le n xs a ∙ sym (length-take-le n ys b))
      (λ k l. let below : k < n = omega (arith, length-take-le n xs a) in
      subst (λ (x : A). R x (get_or (take n ys) k d)) (sym (get_or-take n xs k d below))
      (subst (λ (y : A). R (get_or xs k d) y) (sym (get_or-take n ys k d below)) (h k below)))

  pub at_place : (xs ys : List A) (n k : ℕ) → n ≤ length xs → AllZip R (take n xs) (take n ys) → k < n → R (get_or xs k d) (get_or ys k d)
  at_place xs ys n k a h below =
      let there : k < length (take n xs) = omega (arith, length-take-le n xs a) in
      subst (λ (x : A). R x (get_or ys k d)) (get_or-take n xs k d below)
      (subst (λ (y : A). R (get_or (take n xs) k d) y) (get_or-take n ys k d below)
      (AllZip-get_or R (take n xs) (take n ys) k d d h there))

  -- there is at most one place that has R everywhere before it and not there
  pub only : (xs ys : List A) (i j : ℕ) → i < length xs → j < length xs
      → AllZip R (take i xs) (take i ys) → ¬ R (get_or xs i d) (get_or ys i d)
      → AllZip R (take j xs) (take j ys) → ¬ R (get_or xs j d) (get_or ys j d) → i ≡ j
  only xs ys i j a b before_i not_i before_j not_j =
      elim (cases_lt i j) [
        | inl below ↦ absurd (not_i (at_place xs ys j i (omega arith) before_j below))
        | inr past ↦
            elim (cases_lt j i) [
              | inl below ↦ absurd (not_j (at_place xs ys i j (omega arith) before_i below))
              | inr under ↦ omega arith
            ]
      ]
