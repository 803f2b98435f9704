-- Lists from a place on.
use Rattle.sap_lemmas.proofs.Common.{◌≡◌, ℕ, zero, suc, ◌+◌, ◌<◌, List, [], ◌∷◌, ◌++◌, length, drop, refl, sym, ap, ◌∙◌, arith, add-one, Option, Some, slice_get, unwrap_or, append-nil}

pub drop-at : {X : Type 0} (xs : List X) (n : ℕ) (x : X) → slice_get xs n ≡ Some x → drop n xs ≡ x ∷ drop (n + 1) xs
drop-at [] n x h = absurd (cc h)
drop-at (y ∷ ys) zero x h = ap (λ (o : Option _). unwrap_or o y ∷ ys) h
drop-at (y ∷ ys) (suc n) x h = let r = drop-at ys n x h in simp (add-one) (simp (add-one) at r)

pub drop-some : {X : Type 0} (xs : List X) (n : ℕ) → n < length xs → (x : X) × (slice_get xs n ≡ Some x)
drop-some [] n h = absurd (omega arith)
drop-some (y ∷ ys) zero h = (y, refl)
drop-some (y ∷ ys) (suc n) h = drop-some ys n (omega arith)

-- at the end nothing is left
pub at_end : (new rest all : List ℕ) → rest ≡ [] → new ++ rest ≡ all → new ≡ all
at_end new rest all e h = sym (append-nil new) ∙ ap (λ (r : List ℕ). new ++ r) (sym e) ∙ h
