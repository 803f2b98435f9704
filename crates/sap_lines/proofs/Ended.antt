-- Whether an LF stands among bytes.
use Rattle.sap_lemmas.proofs.Common.{rules, ◌≡◌, ℕ, suc, ◌+◌, ◌-◌, ◌<◌, ◌≤◌, false, true, eqb, nat_lt, List, [], ◌∷◌, length, drop, get_or, refl, sym, ap, ◌∙◌, inl, inr, length-drop, arith, ◌≢◌, ◌↔◌, IsTrue, list_any, cases_lt, lt-ltb, ltb-true as is_below}
use Rattle.std.proofs.lemmas.List.{get_or-drop}
use Rattle.std.proofs.lemmas.List.Folds.{list_any_at}
use Rattle.sap_lines.specs.Fetched.{EndsAt}
use borrow.Author.Tests.{eq-eqb, ne_eqb}

none_there : (s : List ℕ) → ((k : ℕ) → k < length s → get_or s k 0 ≢ 10) → list_any (λ b. eqb b 10) s ≡ false
none_there [] none = refl
none_there (b ∷ bs) none =
    let here : eqb b 10 ≡ false = ne_eqb b 10 (none 0 (omega arith)) in
    rw here (none_there bs (λ k h. none (suc k) (omega (arith, h))))

-- an LF stands from `start` on where one ends behind it
pub has_end : (start ended : ℕ) (bytes s : List ℕ) → EndsAt start ended bytes → start ≤ length bytes → drop start bytes ≡ s
    → IsTrue (nat_lt start ended) ↔ (list_any (λ b. eqb b 10) s ≡ true)
has_end start ended bytes s ends within same =
    elim (cases_lt start ended) [
      | inl behind ↦ (λ _. found behind, λ _. let e : nat_lt start ended ≡ true = lt-ltb start ended behind in search rules)
      | inr before ↦ (λ e. let e = is_below start ended e in absurd (omega (arith, e)), λ e. let f : false ≡ true = sym (none before) ∙ e in absurd (let g : ⊥ = cc in g))
    ] where
      size : length s ≡ length bytes - start
      size = ap length (sym same) ∙ length-drop start bytes

      at : (k : ℕ) → get_or s k 0 ≡ get_or bytes (start + k) 0
      at k = ap (λ (l : List ℕ). get_or l k 0) (sym same) ∙ get_or-drop start bytes k 0

      found : start < ended → list_any (λ b. eqb b 10) s ≡ true
      found behind =
          let last : start + (ended - 1 - start) ≡ ended - 1 = omega (arith, behind) in
          let is : get_or s (ended - 1 - start) 0 ≡ 10 = at (ended - 1 - start) ∙ ap (λ (k : ℕ). get_or bytes k 0) last ∙ ends.last behind in
          list_any_at (λ b. eqb b 10) s (ended - 1 - start) 0 (omega (arith, size, behind, ends.within)) (eq-eqb (get_or s (ended - 1 - start) 0) 10 is)

      none : ended ≤ start → list_any (λ b. eqb b 10) s ≡ false
      none before = none_there s (λ k h lf. ends.none (start + k) (omega (arith, before)) (omega (arith, h, size)) (sym (at k) ∙ lf))
