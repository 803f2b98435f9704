-- Names of parts stay apart.
use Rattle.sap_lemmas.proofs.Common.{◌≡◌, ℕ, true, false, not, [], ◌∷◌, ◌++◌, refl, sym, ap₂, subst, arith, ◌==◌, codes, byte, and_parts}
use Rattle.sap_maps.specs.Maps.{Name}
use Rattle.sap_linked.specs.Prelude.{has_no_underscore, NamesStayApart}

heads : {a b : ℕ} {xs ys : Name} → a ∷ xs ≡ b ∷ ys → a ≡ b
heads e = cc

tails : {a b : ℕ} {xs ys : Name} → a ∷ xs ≡ b ∷ ys → xs ≡ ys
tails e = cc

not_itself : (b : ℕ) → byte "_" ≡ b → not (b == byte "_") ≡ true → ⊥
not_itself b e h = let no : false ≡ true = subst (λ c. not (c == byte "_") ≡ true) (sym e) h in cc

split : (p q xs ys : Name) → has_no_underscore p ≡ true → has_no_underscore q ≡ true → p ++ (codes "_" ++ xs) ≡ q ++ (codes "_" ++ ys) → (p ≡ q) × (xs ≡ ys)
split [] [] xs ys hp hq e = (refl, tails e)
split [] (c ∷ q) xs ys hp hq e = absurd (not_itself c (heads e) (and_parts (not (c == byte "_")) (has_no_underscore q) hq).0)
split (b ∷ p) [] xs ys hp hq e = absurd (not_itself b (sym (heads e)) (and_parts (not (b == byte "_")) (has_no_underscore p) hp).0)
split (b ∷ p) (c ∷ q) xs ys hp hq e =
    let r = split p q xs ys (and_parts (not (b == byte "_")) (has_no_underscore p) hp).1 (and_parts (not (c == byte "_")) (has_no_underscore q) hq).1 (tails e) in
    (ap₂ (λ (a : ℕ) (zs : Name). a ∷ zs) (heads e) r.0, r.1)

pub stay_apart : NamesStayApart
stay_apart p q [] y hp hq lx ly e = absurd (omega (arith, lx))
stay_apart p q (a ∷ []) y hp hq lx ly e = absurd (omega (arith, lx))
stay_apart p q (a ∷ (b ∷ x)) [] hp hq lx ly e = absurd (omega (arith, ly))
stay_apart p q (a ∷ (b ∷ x)) (c ∷ []) hp hq lx ly e = absurd (omega (arith, ly))
stay_apart p q (a ∷ (b ∷ x)) (c ∷ (d ∷ y)) hp hq lx ly e =
    let r = split p q x y hp hq (tails (tails e)) in
    (r.0, ap₂ (λ (f : ℕ) (zs : Name). f ∷ zs) (heads e) (ap₂ (λ (f : ℕ) (zs : Name). f ∷ zs) (heads (tails e)) r.1))
