-- Inputs that fit, entity by entity.
use Rattle.sap_lemmas.proofs.Common.{◌↔◌, ◌<◌, ◌≤◌, ℕ, List, length, drop, arith, IsTrue, nat_eq, inl, inr, cases_Bool, eqb-true, eqb-false, drop_more, drop_of_length-le}
use Rattle.sap_meaning.specs.Prelude.{Tagged, Entity, input_widths, AllFit}

-- what is left fits
abbrev pub Left : (levels : ℕ) → List Entity → List Tagged → Type 0
Left n es ts = AllFit n (input_widths es) ts

-- where no entity is left, all fits where nothing is left
none_left : (n : ℕ) (es : List Entity) (j : ℕ) (ts : List Tagged) (k : ℕ) → length es ≤ j → length ts ≤ k → Left n (drop j es) (drop k ts)
none_left n es j ts k a b = rw (drop_of_length-le es a, drop_of_length-le ts b) tt

some_left : (n : ℕ) (es : List Entity) (j : ℕ) (ts : List Tagged) (k : ℕ) (t : Tagged) → length es ≤ j → k < length ts → Left n (drop j es) (drop k ts) → ⊥
some_left n es j ts k t a b h = rw (drop_of_length-le es a, drop_more ts k t b) at h

-- where no entity is left, all fits exactly where nothing is left
pub all_left : (n : ℕ) (es : List Entity) (j : ℕ) (ts : List Tagged) (k : ℕ) → length es ≤ j → k ≤ length ts
    → (Left n es ts ↔ Left n (drop j es) (drop k ts)) → IsTrue (nat_eq k (length ts)) ↔ Left n es ts
all_left n es j ts k a b h = (
  (λ e. h.1 (none_left n es j ts k a (let i = eqb-true k (length ts) e in omega (arith, i)))),
  (λ f. elim (cases_Bool (nat_eq k (length ts))) [
    | inl y ↦ y
    | inr y ↦ absurd (some_left n es j ts k (record { number = 0; level = 0 }) a (let i = eqb-false k (length ts) y in omega (arith, b, i)) (h.0 f))
  ]),
)
