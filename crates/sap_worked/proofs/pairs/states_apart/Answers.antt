use Rattle.sap_lemmas.proofs.Common.{◌≡◌, false, inl, inr, refl, true_is_not_false, eqb-false}
use Rattle.sap_meaning.specs.Prelude.{Store, own, start, next, put_number, put_level, put_child, first, active_path}
use Rattle.sap_worked.specs.Rows.{left}
use Rattle.sap_worked.specs.Ground.{register_x, register_y, memory_m, memory_k, state_d, state_q, ground, ground_world}
use Rattle.sap_worked.specs.Apart.{Apart}
use Rattle.sap_worked.proofs.Tested.{look_alike, paths_apart}
use Rattle.sap_worked.proofs.pairs.states_apart.Goals as goal

by_paths : (s t : Store) → look_alike ground_world left (active_path ground s) (active_path ground t) ≡ false → Apart s t
by_paths s t fails a = paths_apart ground_world left (active_path ground s) (active_path ground t) fails a.paths

-- each pair by the one thing in which its states differ
pub returns : goal.returns
unfolding first put_number put_level put_child
returns c = record {
  register_number = λ a. elim (a.registers register_x refl) [ inl e ↦ eqb-false 5 6 refl e.0 | inr e ↦ true_is_not_false e.0 ];
  register_level = λ a. elim (a.registers register_x refl) [ inl e ↦ eqb-false 0 1 refl e.1 | inr e ↦ true_is_not_false e.0 ];
  register_seen_in_one = λ a. elim (a.registers register_x refl) [ inl e ↦ eqb-false 1 2 refl e.1 | inr e ↦ true_is_not_false e.0 ];
  cell_number = λ a. elim ((a.enforced_memories memory_k 1 refl refl).0) [ inl e ↦ eqb-false 0 5 refl e.0 | inr e ↦ true_is_not_false e.0 ];
  next_cell_number = λ a. elim ((a.enforced_memories memory_k 1 refl refl).1) [ inl e ↦ eqb-false 0 5 refl e.0 | inr e ↦ true_is_not_false e.0 ];
  memory_number = λ a. elim ((a.dynamic_memories memory_m refl refl).0) [ inl e ↦ eqb-false 0 5 refl (e.0 1) | inr e ↦ true_is_not_false e.0 ];
  next_memory_number = λ a. elim ((a.dynamic_memories memory_m refl refl).1) [ inl e ↦ eqb-false 0 5 refl (e.0 1) | inr e ↦ true_is_not_false e.0 ];
  memory_level = λ a. elim ((a.dynamic_memories memory_m refl refl).0) [ inl e ↦ eqb-false 0 1 refl e.1 | inr e ↦ true_is_not_false e.0 ];
  next_memory_level = λ a. elim ((a.dynamic_memories memory_m refl refl).1) [ inl e ↦ eqb-false 0 1 refl e.1 | inr e ↦ true_is_not_false e.0 ];
  memory_seen_in_one = λ a. elim ((a.dynamic_memories memory_m refl refl).0) [ inl e ↦ eqb-false 0 2 refl e.1 | inr e ↦ true_is_not_false e.0 ];
  enforced_register_level = λ a. eqb-false 2 3 refl (a.enforced_levels (own register_y) refl refl refl);
  enforced_cell_level = λ a. eqb-false 2 3 refl (a.enforced_levels (start memory_k 0) refl refl refl);
  next_enforced_cell_level = λ a. eqb-false 2 3 refl (a.enforced_levels (next memory_k 0) refl refl refl);
  inactive_state_level = λ a. eqb-false 2 3 refl (a.enforced_levels (own state_q) refl refl refl);
  active_state_level = λ a. eqb-false 2 3 refl (a.enforced_levels (own state_d) refl refl refl);
  other_child = by_paths _ _ refl;
  other_child_below = by_paths _ _ refl;
  child_level = by_paths _ _ refl;
  child_level_below = by_paths _ _ refl;
  child_seen_in_one = by_paths _ _ refl;
  other_child_seen_in_one = by_paths _ _ refl;
}
