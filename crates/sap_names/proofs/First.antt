-- The best of some faults is their first.
use Rattle.sap_lemmas.proofs.Common.{◌≡◌, ◌<◌, ◌≤◌, ◌⊎◌, inr, ℕ, List, [], Some, None, Bool, true, false, refl, ap, ap₂, sym, ◌∙◌, arith, common_steps, ltb, leb, eqb, ◌||◌, ◌&&◌}
use Rattle.sap_text.proofs.BestLemmas as best
use Rattle.sap_text.specs.declared.place.Place.{Place}
use Rattle.sap_names.specs.declared.kind.Code.{Code}
use Rattle.sap_names.specs.Fault.{Fault, Before, First}
use Rattle.sap_names.specs.Best.{best_of, comes_first}

-- three numbers, compared one after another
abbrev Ordered : (l c n m d k : ℕ) → Type 0
Ordered l c n m d k = (l < m) ⊎ ((l ≡ m) × (c < d) ⊎ ((l ≡ m) × (c ≡ d) × (n ≤ k)))

abbrev ordered : (l c n m d k : ℕ) → Bool
ordered l c n m d k = ltb l m || (eqb l m && (ltb c d || (eqb c d && leb n k)))

ordered-true : (l c n m d k : ℕ) → ordered l c n m d k ≡ true → Ordered l c n m d k
ordered-true l c n m d k h = grind (arith, common_steps)

ordered-false : (l c n m d k : ℕ) → ordered l c n m d k ≡ false → Ordered m d k l c n
ordered-false l c n m d k h = grind (arith, common_steps)

ordered-trans : (l c n m d k x y z : ℕ) → Ordered l c n m d k → Ordered m d k x y z → Ordered l c n x y z
ordered-trans l c n m d k x y z h g = grind (arith, common_steps)

before-self : (a : Fault) → Before a a
before-self a = inr (inr (refl, refl, omega arith))

before-true : (a b : Fault) → comes_first a b ≡ true → Before a b
before-true a b h = ordered-true _ _ _ _ _ _ h

before-false : (a b : Fault) → comes_first a b ≡ false → Before b a
before-false a b h = ordered-false _ _ _ _ _ _ h

before-trans : (a b c : Fault) → Before a b → Before b c → Before a c
before-trans a b c h g = ordered-trans _ _ _ _ _ _ _ _ _ h g

-- no best, no fault
pub none_first : (fs : List Fault) → None ≡ best_of None fs → fs ≡ []
none_first fs h = best.none_first comes_first Before before-true before-false before-self before-trans fs h

-- what is best is the first, named by its code and place
pub some_first : (fs : List Fault) (f g : Fault) → Some f ≡ best_of None fs → f.code ≡ g.code → f.place ≡ g.place → First (Some g) fs
some_first fs f g h code place =
    best.some_first comes_first Before before-true before-false before-self before-trans fs g (ap (λ (x : Fault). Some x) (sym same) ∙ h)
  where
    same : f ≡ g
    same = ap₂ (λ (c : Code) (p : Place). let x : Fault = record { code = c; place = p } in x) code place
