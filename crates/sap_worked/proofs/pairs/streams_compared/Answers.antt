use Rattle.sap_lemmas.proofs.Common.{inl, inr, refl, true_is_not_false, eqb-false}
use Rattle.sap_worked.proofs.pairs.streams_compared.Goals as goal

pub returns : goal.returns
returns c = record {
  inputs_alike = (inl (refl, refl, refl), (inr (refl, refl), tt));
  input_number = λ a. elim (a.1.0) [ inl e ↦ eqb-false 5 6 refl e.0 | inr e ↦ true_is_not_false e.0 ];
  input_level = λ a. elim (a.0) [ inl e ↦ eqb-false 0 1 refl e.1 | inr e ↦ true_is_not_false e.0 ];
  input_seen_in_one = λ a. elim (a.0) [ inl e ↦ eqb-false 1 2 refl e.1 | inr e ↦ true_is_not_false e.0 ];
  input_too_many = λ a. a.1;
  streams_alike = ((inl (refl, refl, refl), tt), ((inr (refl, refl), tt), tt));
  later_cycle = λ a. elim (a.1.0.0) [ inl e ↦ eqb-false 6 7 refl e.0 | inr e ↦ true_is_not_false e.0 ];
  cycle_too_many = λ a. a.1;
  cycle_later = λ a. elim (a.0.0) [ inl e ↦ eqb-false 5 6 refl e.0 | inr e ↦ true_is_not_false e.0 ];
  streams_agree_below = record { at_left = ((inr (refl, refl), tt), tt); not_at_right = λ a. elim (a.0.0) [ inl e ↦ eqb-false 5 6 refl e.0 | inr e ↦ true_is_not_false e.0 ] };
}
