-- A cycle of the machine, by the body of the state that it is in.
use Rattle.std.proofs.Common.{◌≡◌, ◌||◌, refl, [], ◌∷◌}
use Rattle.sap_meaning.specs.Prelude.{within, Group, no_node, Slot, own, start, source, settle, After, Home, among, group_assigns, root_touches, does_block, does_state, does_child, Tagged, cycle, set_inputs, root_fall}
use Rattle.sap_machine.proofs.Literal.{machine, machine_world, states, block, group, state, user_body, run_body, kernel_body, boot_body}
use Rattle.sap_machine.proofs.Entities.{entities, apart}
use Rattle.sap_meaning.proofs.Commands.{Quiet, raise_quiet, same_store}
use Rattle.sap_machine.proofs.Commands.{enforced}
use Rattle.sap_machine.proofs.View.{Frame, levels, Numbers, store_of, put}

-- the inputs of a cycle
abbrev pub fed : Tagged → Tagged → Numbers → Numbers
fed t u v = put (own 0) t.number (put (own 1) u.number v)

abbrev pub tagged : Tagged → Tagged → Frame → Frame
tagged t u f = record f { first = t.level; second = u.level }

pub inputs_set : (f : Frame) (v : Numbers) (t u : Tagged) → set_inputs machine_world (t ∷ u ∷ []) (store_of f v) ≡ store_of (tagged t u f) (fed t u v)
unfolding set_inputs
inputs_set f v t u = same_store (set_inputs machine_world (t ∷ u ∷ []) (store_of f v)) (store_of (tagged t u f) (fed t u v)) numbered leveled (λ p. refl)
  where
    numbered : (z : Slot) → (set_inputs machine_world (t ∷ u ∷ []) (store_of f v)).number z ≡ fed t u v z
    numbered (own y) = entities (λ y. (set_inputs machine_world (t ∷ u ∷ []) (store_of f v)).number (own y) ≡ fed t u v (own y))
        refl refl refl refl refl refl refl refl refl refl refl refl refl refl refl refl refl refl refl refl (λ x. simp apart refl) y
    numbered (start m i) = refl
    numbered _ = refl

    leveled : (z : Slot) → (set_inputs machine_world (t ∷ u ∷ []) (store_of f v)).level z ≡ levels (tagged t u f) z
    leveled (own y) = entities (λ y. (set_inputs machine_world (t ∷ u ∷ []) (store_of f v)).level (own y) ≡ levels (tagged t u f) (own y))
        refl refl refl refl refl refl refl refl refl refl refl refl refl refl refl refl refl refl refl refl (λ x. refl) y
    leveled (start m i) = refl
    leveled _ = refl

-- what the next parts of the memories have, the start parts have
abbrev pub settled : Numbers → Numbers
settled v = λ z. v (source z)

pub settles : (f : Frame) (v : Numbers) → settle (store_of f v) ≡ store_of f (settled v)
unfolding settle
settles f v = same_store (settle (store_of f v)) (store_of f (settled v)) (λ z. refl) leveled (λ p. refl)
  where
    leveled : (z : Slot) → levels f (source z) ≡ levels f z
    leveled (own y) = refl
    leveled _ = refl

abbrev pub users : Group
users = group (state 19 user_body no_node ∷ [])

abbrev pub at_boot : Home
at_boot = record { state = 16; parent = 20; children = no_node }

abbrev pub at_kernel : Home
at_kernel = record { state = 17; parent = 20; children = no_node }

abbrev pub at_run : Home
at_run = record { state = 18; parent = 20; children = users }

nothing_touched : Quiet (root_touches machine_world states)
nothing_touched = enforced (λ x. among states x || group_assigns states x) refl refl (λ x. simp apart refl)

abbrev pub ended : After → After
ended a = record { store = settle a.store; refused = a.refused }

abbrev pub in_boot : Frame → Numbers → After
in_boot f v = does_block (within machine_world at_boot (does_child machine_world no_node 16)) (block boot_body) 0 (store_of f v)

abbrev pub in_kernel : Frame → Numbers → After
in_kernel f v = does_block (within machine_world at_kernel (does_child machine_world no_node 17)) (block kernel_body) 0 (store_of f v)

abbrev pub in_run : Frame → Numbers → After
in_run f v = does_block (within machine_world at_run (does_child machine_world users 18)) (block run_body) 0 (store_of f v)

pub cycle_in_boot : (f : Frame) (v : Numbers) (t u : Tagged)
    → cycle machine (t ∷ u ∷ []) (store_of (record f { current = 0 }) v) ≡ ended (in_boot (tagged t u (record f { current = 0 })) (fed t u v))
unfolding cycle root_fall does_state
cycle_in_boot f v t u = rw (
  inputs_set (record f { current = 0 }) v t u,
  raise_quiet machine_world.order (root_touches machine_world states) 0 (store_of (tagged t u (record f { current = 0 })) (fed t u v)) nothing_touched,
) refl

pub cycle_in_kernel : (f : Frame) (v : Numbers) (t u : Tagged)
    → cycle machine (t ∷ u ∷ []) (store_of (record f { current = 1 }) v) ≡ ended (in_kernel (tagged t u (record f { current = 1 })) (fed t u v))
unfolding cycle root_fall does_state
cycle_in_kernel f v t u = rw (
  inputs_set (record f { current = 1 }) v t u,
  raise_quiet machine_world.order (root_touches machine_world states) 0 (store_of (tagged t u (record f { current = 1 })) (fed t u v)) nothing_touched,
) refl

pub cycle_in_run : (f : Frame) (v : Numbers) (t u : Tagged)
    → cycle machine (t ∷ u ∷ []) (store_of (record f { current = 2 }) v) ≡ ended (in_run (tagged t u (record f { current = 2 })) (fed t u v))
unfolding cycle root_fall does_state
cycle_in_run f v t u = rw (
  inputs_set (record f { current = 2 }) v t u,
  raise_quiet machine_world.order (root_touches machine_world states) 0 (store_of (tagged t u (record f { current = 2 })) (fed t u v)) nothing_touched,
) refl
