-- The two states that differ nearly everywhere are states between cycles.
use Rattle.std.proofs.Common.{◌≡◌, ℕ, ◌<◌, true, false, refl, rules}
use Rattle.sap_meaning.specs.Prelude.{Store, is_dynamic, authority, children, Slot, own, start, next, start_whole, next_whole, owner, held, level, put_number, put_level, put_child, Resting, first, four_levels}
use Rattle.sap_worked.specs.Ground.{ground_world}
use Rattle.sap_worked.specs.Agreeing.{one_state, other_state}
use Rattle.sap_worked.proofs.Grounded.{each_of, entities, cells, later}

-- an enforced level is at or above its authority
abbrev IsAbove : Store → Slot → Type 0
IsAbove s a = held ground_world a ≡ true → is_dynamic ground_world (owner a) ≡ false
    → four_levels.le (authority ground_world (owner a)) (level ground_world a s) ≡ true

one_above : (a : Slot) → IsAbove one_state a
unfolding first put_number put_level put_child
one_above (own v) = entities (λ v. IsAbove one_state (own v)) (search rules) v
one_above (start v i) = entities (λ v. IsAbove one_state (start v i)) (search rules) v
one_above (next v i) = entities (λ v. IsAbove one_state (next v i)) (search rules) v
one_above (start_whole v) = λ e u. cc
one_above (next_whole v) = λ e u. cc

-- a current child is one of the children
abbrev IsSeated : Store → ℕ → Type 0
IsSeated s p = 0 < children ground_world p → s.child p < children ground_world p

one_seated : (p : ℕ) → IsSeated one_state p
unfolding first put_number put_level put_child
one_seated = each_of (IsSeated one_state) 17 (search rules)

-- both parts of a cell have one level
abbrev IsLevel : Store → (i m : ℕ) → Type 0
IsLevel s i m = level ground_world (start m i) s ≡ level ground_world (next m i) s

one_levels : (m i : ℕ) → IsLevel one_state i m
unfolding first put_number put_level put_child
one_levels m i = entities (IsLevel one_state i) (search rules) m

pub one_rests : Resting ground_world one_state
unfolding first put_number put_level put_child
one_rests = record {
  holds = record { above = one_above; seated = one_seated };
  rests = record { numbers = λ m i. refl; levels = one_levels };
}

other_above_at : (i : ℕ) → IsAbove other_state (start 6 i) × IsAbove other_state (next 6 i)
unfolding first put_number put_level put_child
other_above_at = cells (λ i. IsAbove other_state (start 6 i) × IsAbove other_state (next 6 i)) (search rules) (λ i. rw (later i) (search rules))

other_above : (a : Slot) → IsAbove other_state a
unfolding first put_number put_level put_child
other_above (own v) = entities (λ v. IsAbove other_state (own v)) (search rules) v
other_above (start v i) = entities (λ v. IsAbove other_state (start v i)) (search (rules, other_above_at i)) v
other_above (next v i) = entities (λ v. IsAbove other_state (next v i)) (search (rules, other_above_at i)) v
other_above (start_whole v) = λ e u. cc
other_above (next_whole v) = λ e u. cc

other_seated : (p : ℕ) → IsSeated other_state p
unfolding first put_number put_level put_child
other_seated = each_of (IsSeated other_state) 17 (search rules)

other_levels : (m i : ℕ) → IsLevel other_state i m
unfolding first put_number put_level put_child
other_levels m i = entities (IsLevel other_state i) (search rules) m

pub other_rests : Resting ground_world other_state
unfolding first put_number put_level put_child
other_rests = record {
  holds = record { above = other_above; seated = other_seated };
  rests = record { numbers = λ m i. refl; levels = other_levels };
}
