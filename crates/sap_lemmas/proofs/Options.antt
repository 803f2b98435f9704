-- Options and results.
use Rattle.std.proofs.Common.{Bool, Err, None, Ok, OnOk, Option, Result, Some, ap, arith, false, inl, inr, is_some, refl, subst, suc, sym, true, zero, ℕ, ◌+◌, ◌<◌, ◌∙◌, ◌≡◌, ◌≤◌}
use Rattle.std.specs.List.{range_with_len}
use Rattle.std.specs.Prelude.{find}
use Rattle.std.proofs.lemmas.Bool.{cases_eq, cond_both}

pub find_only_from : (test : ℕ → Bool) (a n x : ℕ) → a ≤ x → x < a + n → test x ≡ true → ((k : ℕ) → k < a + n → test k ≡ true → k ≡ x) → find test (range_with_len a n) ≡ Some x
find_only_from test a zero x low high h only = absurd (omega arith)
find_only_from test a (suc n) x low high h only =
    let rest : Option ℕ = find test (range_with_len (a + 1) n) in
    cond_both (test a) (Some a) rest (λ o. o ≡ Some x)
    (λ e. ap Some (only a (omega arith) e))
    (λ e. elim (cases_eq a x) [
      | inl same ↦ absurd (differ (test a) (subst (λ j. test j ≡ true) (sym same) h) e)
      | inr ne ↦ find_only_from test (a + 1) n x (omega arith) (omega arith) h (λ k small. only k (omega arith))
    ])
  where
    differ : (b : Bool) → b ≡ true → b ≡ false → ⊥
    differ b p q = let e : true ≡ false = sym p ∙ q in cc

pub none_of_test : (o : Option ℕ) → is_some o ≡ false → o ≡ None
none_of_test None h = refl
none_of_test (Some j) h = absurd (cc)

pub some_same : (a b : ℕ) → Some a ≡ Some b → a ≡ b
some_same a b h = cc

pub some_unique : {A : Type 0} (o : Option A) (a b : A) → o ≡ Some a → o ≡ Some b → a ≡ b
some_unique o a b p q = cc

-- what holds where a call went well follows from what else holds there
pub on_ok : {T E : Type 0} (r : Result T E) (P Q : Type 0) → (P → Q) → OnOk r P → OnOk r Q
on_ok (Ok x) P Q f h = f h
on_ok (Err e) P Q f h = tt
