-- What is told of some cycles, and of more.
use Rattle.sap_lemmas.proofs.Common.{◌≡◌, ℕ, suc, ◌+◌, List, [], ◌∷◌, ◌++◌, length, map, ap, ◌∙◌, arith, append-nil, length-map, map-append, append_three}
use Rattle.sap_sim.specs.Told.{told_from}

module _ {X : Type 0} (tell : ℕ → X → List ℕ) where
  pub told_split : (c : ℕ) (xs ys : List X) → told_from tell c (xs ++ ys) ≡ told_from tell c xs ++ told_from tell (c + length xs) ys
  told_split c [] ys = let e : c ≡ c + 0 = omega arith in ap (λ (k : ℕ). told_from tell k ys) e
  told_split c (x ∷ xs) ys =
      let e : c + 1 + length xs ≡ c + suc (length xs) = omega arith in
      ap (λ (text : List ℕ). tell c x ++ text) (told_split (c + 1) xs ys)
      ∙ append_three (tell c x) (told_from tell (c + 1) xs) (told_from tell (c + 1 + length xs) ys)
      ∙ ap (λ (k : ℕ). (tell c x ++ told_from tell (c + 1) xs) ++ told_from tell k ys) e

  -- of the cycles of two lists
  pub mapped_split : {V : Type 0} (f : V → X) (c : ℕ) (vs ws : List V)
      → told_from tell c (map f (vs ++ ws)) ≡ told_from tell c (map f vs) ++ told_from tell (c + length vs) (map f ws)
  mapped_split f c vs ws =
      ap (told_from tell c) (map-append f vs ws)
      ∙ told_split c (map f vs) (map f ws)
      ∙ ap (λ (k : ℕ). told_from tell c (map f vs) ++ told_from tell (c + k) (map f ws)) (length-map vs f)

  -- of one cycle more
  pub mapped_push : {V : Type 0} (f : V → X) (c : ℕ) (vs : List V) (v : V) → told_from tell c (map f (vs ++ v ∷ [])) ≡ told_from tell c (map f vs) ++ tell (c + length vs) (f v)
  mapped_push f c vs v =
      mapped_split f c vs (v ∷ []) ∙ ap (λ (text : List ℕ). told_from tell c (map f vs) ++ text) (append-nil (tell (c + length vs) (f v)))
