-- The generated design has no fault of shape.
use Rattle.sap_lemmas.proofs.Common.{◌≡◌, ℕ, zero, suc, ◌+◌, ◌%◌, ◌<◌, ◌≤◌, List, [], ◌∷◌, ◌++◌, Bool, true, false, map, refl, ap, ◌∙◌, inl, inr, arith, if◌then◌else◌, not, range_with_len, bytes_eq, cases_eq, or_left, or_right, codes, bytes_eq_same}
use Rattle.sap_tree.specs.Prelude.{nowhere, CommandList, no_state, StateList, commands, enforced, states}
use Rattle.sap_names.specs.Prelude.{entities_of, fault_if}
use Rattle.sap_names.specs.declared.fault.Fault.{Fault}
use Rattle.sap_names.specs.declared.kind.Code.TheVariants.{E11}
use Rattle.sap_names.specs.declared.entity.Entity.{Entity}
use Rattle.sap_shape.specs.Closing.{closing_list_faults, is_end}
use Rattle.sap_shape.specs.ShapeFaults.{Body, HasShape, is_among, list_shape, states_shape}
use Rattle.sap_shape.specs.Walk.{Written, falls_list, found_in_list, fresh, second_states}
use Rattle.sap_shape.proofs.Again.{no_faults}
use Rattle.sap_gen.specs.Design.{assignment, design_of_counts, state, state_name, transfer}
use Rattle.sap_gen.proofs.Faultless.{none_of}

-- the commands of a body from the a-th on, k of them before the goto
abbrev rest_of_body : (r t j a k : ℕ) → CommandList
rest_of_body r t j a k = commands (map (assignment r j) (range_with_len a k) ++ transfer t j ∷ [])

otherwise : (b : Bool) (x y : List Fault) → b ≡ false → y ≡ [] → (if b then x else y) ≡ []
otherwise b x y f e = rw f e

goes_on : (r t j a k : ℕ) → is_end (rest_of_body r t j a k) ≡ false
goes_on r t j a zero = refl
goes_on r t j a (suc k) = refl

closes : (r t j a k : ℕ) → closing_list_faults (rest_of_body r t j a k) nowhere ≡ []
closes r t j a zero = refl
closes r t j a (suc k) = otherwise (is_end (rest_of_body r t j (a + 1) k)) _ (closing_list_faults (rest_of_body r t j (a + 1) k) nowhere)
    (goes_on r t j (a + 1) k) (closes r t j (a + 1) k)

shaped : (es : List Entity) (at : Body) (r t j a k : ℕ) → is_among at.group (state_name ((j + 1) % t)) ≡ true → list_shape es at (rest_of_body r t j a k) ≡ []
shaped es at r t j a zero h = ap (λ (b : Bool). fault_if (not b) E11 nowhere ++ []) h
shaped es at r t j a (suc k) h = shaped es at r t j (a + 1) k h

module _ (es : List Entity) (r t : ℕ) (group : StateList) (siblings : (j : ℕ) → is_among group (state_name ((j + 1) % t)) ≡ true) where
  states_shaped : (a k : ℕ) → states_shape es group [] (states (map (state r t) (range_with_len a k))) ≡ []
  states_shaped a zero = refl
  states_shaped a (suc k) =
      none_of _ (states_shape es group [] (states (map (state r t) (range_with_len (a + 1) k))))
      (none_of _ []
      (none_of (closing_list_faults (rest_of_body r t a 0 r) nowhere)
      (list_shape es (record {
        home = record { name = state_name a; kind = enforced (codes "low"); children = no_state };
        group = group;
        above = [];
      }) (rest_of_body r t a 0 r)) (closes r t a 0 r)
      (shaped es (record { home = record { name = state_name a; kind = enforced (codes "low"); children = no_state }; group = group; above = [] }) r t a 0 r (siblings a))) refl)
      (states_shaped (a + 1) k)

among : (r t a k j : ℕ) → a ≤ j → j < a + k → is_among (states (map (state r t) (range_with_len a k))) (state_name j) ≡ true
among r t a zero j l h = absurd (omega arith)
among r t a (suc k) j l h = elim (cases_eq a j) [
  | inl e ↦ or_left (bytes_eq (state_name a) (state_name j)) _ (ap (λ (z : ℕ). bytes_eq (state_name z) (state_name j)) e ∙ bytes_eq_same (state_name j))
  | inr ne ↦ or_right (bytes_eq (state_name a) (state_name j)) _ (among r t (a + 1) k j (omega arith) (omega arith))
]

-- no memory is written

same_either_way : (b : Bool) (fs : List Fault) → (if b then fs else fs) ≡ fs
same_either_way true fs = refl
same_either_way false fs = refl

nothing_written : (r t j a k : ℕ) (p : Written) → (found_in_list (rest_of_body r t j a k) p).again ≡ []
nothing_written r t j a zero p = refl
nothing_written r t j a (suc k) p = nothing_written r t j (a + 1) k p

nothing_twice : (r t a k : ℕ) (p : Written) → second_states (states (map (state r t) (range_with_len a k))) p ≡ []
nothing_twice r t a zero p = refl
nothing_twice r t a (suc k) p =
    none_of _ (second_states (states (map (state r t) (range_with_len (a + 1) k))) p)
    (none_of (found_in_list (rest_of_body r t a 0 r) p).again _ (nothing_written r t a 0 r p) (same_either_way (falls_list (rest_of_body r t a 0 r)) []))
    (nothing_twice r t (a + 1) k p)

pub has_shape : (r t : ℕ) → 0 < t → HasShape (design_of_counts r t)
has_shape r t more =
    no_faults (design_of_counts r t)
    (none_of _ _
    (states_shaped (entities_of (design_of_counts r t)) r t (states (map (state r t) (range_with_len 0 t))) (λ j. among r t 0 t ((j + 1) % t) (omega arith) (omega arith)) 0 t)
    (nothing_twice r t 0 t fresh))
