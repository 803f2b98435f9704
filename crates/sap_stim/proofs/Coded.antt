-- The level that has a code.
use Rattle.sap_lemmas.proofs.Common.{◌≡◌, ◌≢◌, ℕ, zero, suc, ◌+◌, ◌<◌, Bool, true, Option, Some, None, eqb, refl, sym, ◌∙◌, arith, find, MatchOption, IfSome, range_with_len}
use Rattle.std.proofs.lemmas.Bool.{cond_both}
use Rattle.sap_lemmas.proofs.Options.{find_only_from}
use borrow.Author.Tests.{eqb-true, eq-eqb}
use Rattle.sap_lattice.specs.Levels.{numbers}

none_from : (test : ℕ → Bool) (a n : ℕ) → ((k : ℕ) → k < a + n → test k ≡ true → ⊥) → find test (range_with_len a n) ≡ None
none_from test a zero none = refl
none_from test a (suc n) none =
    let rest : Option ℕ = find test (range_with_len (a + 1) n) in
    cond_both (test a) (Some a) rest (λ o. o ≡ None)
    (λ e. absurd (none a (omega arith) e))
    (λ e. none_from test (a + 1) n (λ k small. none k (omega arith)))

-- an injective code's level
pub level_found : (f : ℕ → ℕ) (n c : ℕ) (r : Option ℕ) → ((x y : ℕ) → x < n → y < n → f x ≡ f y → x ≡ y)
    → MatchOption r ((x : ℕ) → x < n → f x ≢ c) (λ x. (x < n) × (f x ≡ c)) → r ≡ find (λ x. eqb (f x) c) (numbers n)
level_found f n c None apart h = sym (none_from (λ x. eqb (f x) c) 0 n (λ k small t. h k (omega arith) (eqb-true (f k) c t)))
level_found f n c (Some x) apart h =
    sym (find_only_from (λ k. eqb (f k) c) 0 n x (omega arith) (let s = h.0 in omega arith) (eq-eqb (f x) c h.1)
    (λ k small t. apart k x (omega arith) h.0 (eqb-true (f k) c t ∙ sym h.1)))

pub found_within : (n : ℕ) (none : Type 0) (P : ℕ → Type 0) (r : Option ℕ) → MatchOption r none (λ x. (x < n) × P x) → IfSome r (λ x. x < n)
found_within n none P None h = tt
found_within n none P (Some x) h = h.0
