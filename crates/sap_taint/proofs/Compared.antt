-- Cycles with tags that agree at low, and cycles that don't.
use Rattle.sap_lemmas.proofs.Common.{◌≡◌, ◌<◌, ℕ, zero, suc, refl, inl, inr, arith, cases_Bool, codes, bytes_eq, eqb-false, true_is_not_false}
use Rattle.sap_lattice.specs.Prelude.{code_of, meet_irreducibles}
use Rattle.sap_meaning.specs.Codes.{IsLowCode, IsHighCode}
use Rattle.sap_meaning.specs.Examples.{two_levels}
use Rattle.sap_taint.specs.Comparing.{ComparedTaint}

low : IsLowCode two_levels (code_of two_levels) 0 0
unfolding code_of meet_irreducibles
low = (0, omega arith, refl, refl)

high : IsHighCode two_levels (code_of two_levels) 0 1
unfolding code_of meet_irreducibles
high = (1, omega arith, refl, refl)

-- 0 is not the code of high, and 2 is that of no level
not_high : IsHighCode two_levels (code_of two_levels) 0 0 → ⊥
unfolding code_of meet_irreducibles
not_high (zero, below, is, above) = true_is_not_false above
not_high (suc zero, below, is, above) = eqb-false 1 0 refl is
not_high (suc (suc t), below, is, above) = absurd (omega (arith, below))

no_code : (t : ℕ) → t < 2 → code_of two_levels t ≡ 2 → ⊥
unfolding code_of meet_irreducibles
no_code zero below is = eqb-false 0 2 refl is
no_code (suc zero) below is = eqb-false 1 2 refl is
no_code (suc (suc t)) below is = absurd (omega (arith, below))

pub compared : ComparedTaint
unfolding code_of meet_irreducibles
compared = record {
  codes = (refl, refl);
  high_things = record {
    value = λ x w is. elim (cases_Bool (bytes_eq x (codes "v_y"))) [ inl e ↦ rw e (inr (high, high)) | inr e ↦ rw e (inl (refl, refl, low)) ];
    memory = λ m s is. inr (high, high);
  };
  number = λ a. elim (a.value (codes "v_y") 8 refl) [ inl e ↦ eqb-false 5 6 refl e.0 | inr e ↦ not_high e.0 ];
  tag = λ a. elim (a.value (codes "v_y") 8 refl) [ inl e ↦ eqb-false 0 1 refl e.1 | inr e ↦ not_high e.0 ];
  cell = λ a. elim (a.memory (codes "v_m") (8, 2) refl) [ inl e ↦ eqb-false 3 4 refl (e.0 0) | inr e ↦ not_high e.0 ];
  memory_tag = λ a. elim (a.memory (codes "v_m") (8, 2) refl) [ inl e ↦ eqb-false 0 1 refl e.1 | inr e ↦ not_high e.0 ];
  no_code = λ a. elim (a.value (codes "v_y") 8 refl) [ inl e ↦ no_code e.2.0 e.2.1 e.2.2 | inr e ↦ no_code e.0.0 e.0.1 e.0.2 ];
}
