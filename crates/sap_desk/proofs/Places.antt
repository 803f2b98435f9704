-- What a list tells by place, after a push and after a write.
use Rattle.sap_lemmas.proofs.Common.{◌≡◌, ℕ, zero, suc, ◌<◌, false, List, [], ◌∷◌, ◌++◌, length, set, get_or, refl, sym, ◌∙◌, ap, arith, eqb, nat_tests}
use Rattle.sap_desk.specs.Desk.{at_number, placed}
use Rattle.sap_desk.proofs.Steps.{at_number-keeps}

later : (k n : ℕ) → eqb (suc k) 0 ≡ false
later k n = grind (arith, nat_tests)

first : (n : ℕ) → eqb 0 (suc n) ≡ false
first n = grind (arith, nat_tests)

both : (k n : ℕ) → eqb (suc k) (suc n) ≡ eqb k n
both k n = grind (arith, nat_tests)

placed_push_at : {X A : Type 0} (f : X → A) (none : A) (xs : List X) (x : X) (k : ℕ) → placed f none (xs ++ x ∷ []) k ≡ at_number (length xs) (f x) (placed f none xs) k
placed_push_at f none [] x zero = refl
placed_push_at f none [] x (suc k) = rw (later k 0) refl
placed_push_at f none (y ∷ xs) x zero = rw (first (length xs)) refl
placed_push_at f none (y ∷ xs) x (suc k) = rw (both k (length xs)) (placed_push_at f none xs x k)

pub placed_push : {X A : Type 0} (f : X → A) (none : A) (xs : List X) (x : X) → placed f none (xs ++ x ∷ []) ≡ at_number (length xs) (f x) (placed f none xs)
placed_push f none xs x = λ i k. placed_push_at f none xs x k i

placed_set_at : {X A : Type 0} (f : X → A) (none : A) (xs : List X) (i : ℕ) (x : X) (k : ℕ) → i < length xs → placed f none (set xs i x) k ≡ at_number i (f x) (placed f none xs) k
placed_set_at f none [] i x k h = absurd (omega arith)
placed_set_at f none (y ∷ xs) zero x zero h = refl
placed_set_at f none (y ∷ xs) zero x (suc k) h = rw (later k 0) refl
placed_set_at f none (y ∷ xs) (suc i) x zero h = rw (first i) refl
placed_set_at f none (y ∷ xs) (suc i) x (suc k) h = rw (both k i) (placed_set_at f none xs i x k (omega arith))

pub placed_set : {X A : Type 0} (f : X → A) (none : A) (xs : List X) (i : ℕ) (x : X) → i < length xs → placed f none (set xs i x) ≡ at_number i (f x) (placed f none xs)
placed_set f none xs i x h = λ j k. placed_set_at f none xs i x k h j

pub placed_end : {X A : Type 0} (f : X → A) (none : A) (xs : List X) → placed f none xs (length xs) ≡ none
placed_end f none [] = refl
placed_end f none (x ∷ xs) = placed_end f none xs

-- the same for a list that is only equal to the one after the push, or after the write
pub pushed : {X A : Type 0} (f : X → A) (none : A) (xs ys : List X) (x : X) (k : ℕ) → ys ≡ xs ++ x ∷ [] → k ≡ length xs → placed f none ys ≡ at_number k (f x) (placed f none xs)
pushed f none xs ys x k list number = rw (list, number) (placed_push f none xs x)

pub placed_set_same : {X A : Type 0} (f : X → A) (none : A) (xs : List X) (i : ℕ) (x : X) → i < length xs → placed f none xs i ≡ f x → placed f none (set xs i x) ≡ placed f none xs
placed_set_same f none xs i x h same = placed_set f none xs i x h ∙ at_number-keeps i (f x) (placed f none xs) same

pub placed_read : {X A : Type 0} (f : X → A) (none : A) (xs : List X) (i : ℕ) (d : X) → i < length xs → placed f none xs i ≡ f (get_or xs i d)
placed_read f none [] i d h = absurd (omega arith)
placed_read f none (x ∷ xs) zero d h = refl
placed_read f none (x ∷ xs) (suc i) d h = placed_read f none xs i d (omega arith)

-- an element that code has read
pub placed_is : {X A : Type 0} (f : X → A) (none : A) (xs : List X) (i : ℕ) (x : X) → i < length xs → x ≡ get_or xs i x → placed f none xs i ≡ f x
placed_is f none xs i x h is = placed_read f none xs i x h ∙ ap f (sym is)
