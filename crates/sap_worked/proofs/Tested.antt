-- Whether active paths look alike, as a test.
use Rattle.sap_lemmas.proofs.Common.{◌≡◌, ℕ, Bool, true, false, not, ◌&&◌, List, [], ◌∷◌, nat_eq, inl, inr, refl, sym, ◌∙◌, if◌then◌else◌, cases_Bool, eqb-true, and_left, and_right, true_is_not_false, test_of_same}
use Rattle.sap_meaning.specs.Prelude.{World, Alike, ActiveState, PathsRelated}

module _ (w : World) (l : ℕ) where
  abbrev pub look_alike : List ActiveState → List ActiveState → Bool
  look_alike [] [] = true
  look_alike [] (y ∷ ys) = false
  look_alike (x ∷ xs) [] = false
  look_alike (x ∷ xs) (y ∷ ys) =
      if w.order.le x.tag l then nat_eq x.tag y.tag && (nat_eq x.state y.state && look_alike xs ys) else not (w.order.le y.tag l)

  passes : (xs ys : List ActiveState) → PathsRelated (Alike w.order l) xs ys → look_alike xs ys ≡ true
  passes [] [] r = refl
  passes [] (y ∷ ys) r = absurd r
  passes (x ∷ xs) [] r = absurd r
  passes (x ∷ xs) (y ∷ ys) (inl r) = rw (r.2, ← r.1, ← r.0.0, test_of_same x.tag, test_of_same x.state) (passes xs ys r.0.1)
  passes (x ∷ xs) (y ∷ ys) (inr r) = rw (r.0, r.1) refl

  pub paths_apart : (xs ys : List ActiveState) → look_alike xs ys ≡ false → PathsRelated (Alike w.order l) xs ys → ⊥
  paths_apart xs ys fails r = true_is_not_false (sym (passes xs ys r) ∙ fails)

  pub paths_alike : (xs ys : List ActiveState) → look_alike xs ys ≡ true → PathsRelated (Alike w.order l) xs ys
  paths_alike [] [] e = tt
  paths_alike [] (y ∷ ys) e = cc
  paths_alike (x ∷ xs) [] e = cc
  paths_alike (x ∷ xs) (y ∷ ys) e = elim (cases_Bool (w.order.le x.tag l)) [
    | inl low ↦ (
        let e' = rw low at e in
        let rest = and_right (nat_eq x.tag y.tag) _ e' in
        inl (
          (eqb-true x.state y.state (and_left (nat_eq x.state y.state) (look_alike xs ys) rest), paths_alike xs ys (and_right (nat_eq x.state y.state) (look_alike xs ys) rest)),
          eqb-true x.tag y.tag (and_left (nat_eq x.tag y.tag) (nat_eq x.state y.state && look_alike xs ys) e'),
          low,
        ))
    | inr high ↦ elim (cases_Bool (w.order.le y.tag l)) [
      | inl low ↦ (let e' = rw (high, low) at e in cc)
      | inr also ↦ inr (high, also)
    ]
  ]
