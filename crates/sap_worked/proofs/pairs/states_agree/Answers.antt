use Rattle.sap_lemmas.proofs.Common.{inl, inr, refl, true_is_not_false, eqb-false}
use Rattle.sap_meaning.specs.Prelude.{put_number, put_level, put_child, first}
use Rattle.sap_worked.specs.Rows.{low, left}
use Rattle.sap_worked.specs.Ground.{register_x}
use Rattle.sap_worked.proofs.Grounded.{cells, later, agreed}
use Rattle.sap_worked.proofs.Rested.{one_rests, other_rests}
use Rattle.sap_worked.proofs.pairs.states_agree.Goals as goal

-- the same content at a low level, or two high levels, by computation
ruleset alike = (inl, inr)

pub returns : goal.returns
unfolding first put_number put_level put_child
returns c = record {
  registers_above = agreed left _ _ (search alike) (search alike);
  enforced_registers_above = agreed left _ _ (search alike) (search alike);
  cells_above = agreed left _ _ (record {
    k = cells _ (search alike) (λ i. rw (later i) (search alike));
    h = cells _ (search alike) (λ i. rw (later i) (search alike));
  }) (search alike);
  memories_above = agreed left _ _ (search alike) (search alike);
  state_levels_above = agreed left _ _ (search alike) (search alike);
  children_above = agreed left _ _ (search alike) (search alike);
  below_the_seen = agreed left _ _ (search alike) (search alike);
  inactive_children = agreed left _ _ (search alike) (search alike);
  inactive_levels = agreed left _ _ (search alike) (search alike);
  inputs_aside = agreed left _ _ (search alike) (search alike);
  agree_below = record {
    one_rests = one_rests;
    other_rests = other_rests;
    at_low = agreed low _ _ (record { k = (search alike); h = cells _ (search alike) (λ i. rw (later i) (search alike)) }) (search alike);
    at_left = agreed left _ _ (record { k = (search alike); h = cells _ (search alike) (λ i. rw (later i) (search alike)) }) (search alike);
    not_at_right = λ a. elim (a.registers register_x refl) [ inl e ↦ eqb-false 5 6 refl e.0 | inr e ↦ true_is_not_false e.0 ];
    not_at_high = λ a. elim (a.registers register_x refl) [ inl e ↦ eqb-false 5 6 refl e.0 | inr e ↦ true_is_not_false e.0 ];
  };
}
