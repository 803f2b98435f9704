-- The root's fall.
use Rattle.std.proofs.Common.{◌≡◌, ℕ, zero, suc, ◌<◌, ◌≤◌, Bool, List, [], ◌∷◌, length, get_or, refl, arith}
use Rattle.sap_lattice.specs.Levels.{order_of}
use Rattle.sap_meaning.specs.Prelude.{World, root, listed, Store, own, level, child, raise, stay, root_fall, run_state}
use Rattle.sap_program.specs.Prelude.{flags, group_of, state_of}
use Rattle.sap_program.specs.declared.program.State.{State, out-State}
use Rattle.sap_store.specs.declared.environment.Environment.{Environment}
use Rattle.sap_store.specs.Code.{world_in, entities_in}
use Rattle.sap_run.specs.Runs.{state_run}
use Rattle.sap_sem.specs.Falls.{fallen}
use Rattle.sap_store.proofs.Worlds.{root_is}
use Rattle.sap_program.proofs.Shown.{state_of-out}

module _ (w : World) (n : ℕ) (h : ℕ → Bool) (p : ℕ) where
  fall_at : (kids : List State) (k : ℕ) (s : Store) (c : State) → k < length kids
      → root_fall w h (λ t. run_state w t p) (group_of n kids) k s
      ≡ run_state w (state_of n (get_or kids k c)) p (level w (own (out-State (get_or kids k c)).number) s)
      (raise w.order h (level w (own (out-State (get_or kids k c)).number) s) s)
  unfolding root_fall group_of
  fall_at [] k s c l = absurd (omega (arith, l))
  fall_at (j ∷ kids) zero s c l = rw (state_of-out n j) refl
  fall_at (j ∷ kids) (suc k) s c l = rw (state_of-out n j) (fall_at kids k s c (omega (arith, l)))

  fall_past : (kids : List State) (k : ℕ) (s : Store) → length kids ≤ k → root_fall w h (λ t. run_state w t p) (group_of n kids) k s ≡ stay s
  unfolding root_fall group_of
  fall_past [] k s l = refl
  fall_past (j ∷ kids) zero s l = absurd (omega (arith, l))
  fall_past (j ∷ kids) (suc k) s l = rw (state_of-out n j) (fall_past kids k s (omega (arith, l)))

pub fallen-at : (d : Environment) (s : Store) (k x : ℕ) (c : State) → k ≡ child (entities_in d) s → k < length d.program.now.states.items
    → x ≡ (out-State (get_or d.program.now.states.items k c)).number
    → fallen d s ≡ state_run d (entities_in d) (get_or d.program.now.states.items k c) (level (world_in d) (own x) s)
    (raise (world_in d).order (listed (flags (entities_in d) d.program.now.hang)) (level (world_in d) (own x) s) s)
unfolding fallen state_run
fallen-at d s k x c e l i =
    let r : root (world_in d) ≡ entities_in d = root_is (order_of d.lattice.now) d.program.now in
    rw (r, ← e, i) (fall_at (world_in d) (entities_in d) (listed (flags (entities_in d) d.program.now.hang)) (entities_in d) d.program.now.states.items k s c l)

pub fallen-past : (d : Environment) (s : Store) (k : ℕ) → k ≡ child (entities_in d) s → length d.program.now.states.items ≤ k → fallen d s ≡ stay s
unfolding fallen
fallen-past d s k e l =
    let r : root (world_in d) ≡ entities_in d = root_is (order_of d.lattice.now) d.program.now in
    rw (r, ← e) (fall_past (world_in d) (entities_in d) (listed (flags (entities_in d) d.program.now.hang)) (entities_in d) d.program.now.states.items k s l)

pub ruleset falls = (fallen-at, fallen-past)
