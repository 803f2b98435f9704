-- How many check sites were refused, a site after another.
use Rattle.sap_lemmas.proofs.Common.{◌≡◌, ℕ, zero, suc, ◌+◌, List, [], Bool, Option, Some, None, length, sym, ap, ap₂, ◌∙◌, arith, if◌then◌else◌, is_some}
use Rattle.sap_meaning.specs.Store.{Refusal}
use Rattle.sap_sem.specs.Machine.{refusal_before, refusals_from}

abbrev pub one_if : Bool → ℕ
one_if b = if b then 1 else 0

one_before : (k : ℕ) (o : Option ℕ) (rs : List Refusal) → length (refusal_before k o rs) ≡ one_if (is_some o) + length rs
one_before k None rs = let e : length rs ≡ 0 + length rs = omega arith in e
one_before k (Some t) rs = let e : suc (length rs) ≡ 1 + length rs = omega arith in e

site_behind : (level_at : ℕ → Option ℕ) (k n : ℕ) → length (refusals_from level_at k (suc n)) ≡ length (refusals_from level_at k n) + one_if (is_some (level_at (k + n)))
site_behind level_at k zero =
    let e : k ≡ k + 0 = omega arith in
    let f : one_if (is_some (level_at k)) + 0 ≡ 0 + one_if (is_some (level_at k)) = omega arith in
    one_before k (level_at k) [] ∙ f ∙ ap (λ (j : ℕ). 0 + one_if (is_some (level_at j))) e
site_behind level_at k (suc n) =
    let e : suc k + n ≡ k + suc n = omega arith in
    let a : length (refusals_from level_at (suc k) (suc n)) ≡ length (refusals_from level_at (suc k) n) + one_if (is_some (level_at (k + suc n))) =
    site_behind level_at (suc k) n ∙ ap (λ (j : ℕ). length (refusals_from level_at (suc k) n) + one_if (is_some (level_at j))) e in
    let b = one_before k (level_at k) (refusals_from level_at (suc k) (suc n)) in
    let c = one_before k (level_at k) (refusals_from level_at (suc k) n) in
    omega arith

pub one_site_more : (level_at : ℕ → Option ℕ) (n : ℕ) → length (refusals_from level_at 1 (n + 1)) ≡ length (refusals_from level_at 1 n) + one_if (is_some (level_at (n + 1)))
one_site_more level_at n =
    let e : n + 1 ≡ suc n = omega arith in
    let f : 1 + n ≡ n + 1 = omega arith in
    ap (λ (k : ℕ). length (refusals_from level_at 1 k)) e ∙ site_behind level_at 1 n
    ∙ ap (λ (k : ℕ). length (refusals_from level_at 1 n) + one_if (is_some (level_at k))) f

pub counted_more : (level_at : ℕ → Option ℕ) (n old new : ℕ) (o : Option ℕ) (b : Bool) → old ≡ length (refusals_from level_at 1 n)
    → o ≡ level_at (n + 1) → b ≡ is_some o → new ≡ old + one_if b
    → new ≡ length (refusals_from level_at 1 (n + 1))
counted_more level_at n old new o b before is some grown =
    grown ∙ ap₂ (λ (k : ℕ) (c : Bool). k + one_if c) before (some ∙ ap is_some is) ∙ sym (one_site_more level_at n)
