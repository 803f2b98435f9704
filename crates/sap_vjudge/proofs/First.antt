-- The best of some faults is their first.
use Rattle.sap_lemmas.proofs.Common.{◌≡◌, ◌<◌, ◌≤◌, ◌⊎◌, inr, ℕ, List, Some, None, Bool, true, false, refl, subst, arith, common_steps, nat_lt, nat_le, ◌==◌, ◌||◌, ◌&&◌}
use Rattle.sap_text.proofs.BestLemmas as best
use Rattle.sap_text.specs.Best.{StandsIn}
use Rattle.sap_vjudge.specs.FirstFault.{number}
use Rattle.sap_vjudge.specs.Best.{Fault, best_of, comes_first}

-- by place, then by code
abbrev Ordered : (c n d k : ℕ) → Type 0
Ordered c n d k = (c < d) ⊎ ((c ≡ d) × (n ≤ k))

abbrev ordered : (c n d k : ℕ) → Bool
ordered c n d k = nat_lt c d || (c == d && nat_le n k)

ordered-true : (c n d k : ℕ) → ordered c n d k ≡ true → Ordered c n d k
ordered-true c n d k h = grind (arith, common_steps)

ordered-false : (c n d k : ℕ) → ordered c n d k ≡ false → Ordered d k c n
ordered-false c n d k h = grind (arith, common_steps)

ordered-trans : (c n d k x y : ℕ) → Ordered c n d k → Ordered d k x y → Ordered c n x y
ordered-trans c n d k x y h g = grind (arith, common_steps)

abbrev pub Before : Fault → Fault → Type 0
Before a b = Ordered a.place (number a.code) b.place (number b.code)

before-self : (a : Fault) → Before a a
before-self a = inr (refl, omega arith)

before-true : (a b : Fault) → comes_first a b ≡ true → Before a b
before-true a b h = ordered-true _ _ _ _ h

before-false : (a b : Fault) → comes_first a b ≡ false → Before b a
before-false a b h = ordered-false _ _ _ _ h

before-trans : (a b c : Fault) → Before a b → Before b c → Before a c
before-trans a b c h g = ordered-trans _ _ _ _ _ _ h g

-- no best, no fault
pub none_first : (fs : List Fault) → None ≡ best_of None fs → (f : Fault) → StandsIn f fs → ⊥
none_first fs h f k = subst (λ (l : List Fault). StandsIn f l) (best.none_first comes_first Before before-true before-false before-self before-trans fs h) k

-- the best stands, and before each
pub best_stands : (fs : List Fault) (f : Fault) → Some f ≡ best_of None fs → StandsIn f fs
best_stands fs f h = (best.some_first comes_first Before before-true before-false before-self before-trans fs f h).0

pub best_before : (fs : List Fault) (f g : Fault) → Some f ≡ best_of None fs → StandsIn g fs → Before f g
best_before fs f g h k =
    let first = best.some_first comes_first Before before-true before-false before-self before-trans fs f h in
    best.before_all-at comes_first Before before-true before-false before-self before-trans f g fs first.1 k
