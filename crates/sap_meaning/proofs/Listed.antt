-- Exact lists raise what is touched.
use Rattle.sap_lemmas.proofs.Common.{◌≡◌, ℕ, zero, suc, Bool, List, ◌∷◌, ◌++◌, refl, ap, nat_eq, inl, inr, cases_Bool}
use Rattle.sap_maps.specs.Term.{Term}
use Rattle.sap_meaning.specs.Program.{World, root, listed, Step, fall_to_child, Command, lone, try, if_else, try_then, case_of, Arms, last_arm, and_arm, Block, end_block, command_then, State, state_node, Group, no_node, and_node}
use Rattle.sap_meaning.specs.Store.{Store, child, settle, After, and_then}
use Rattle.sap_meaning.specs.Expressions.{value}
use Rattle.sap_meaning.specs.Checks.{Home, site_of, guard, test}
use Rattle.sap_meaning.specs.Touches.{raised_alone, root_touches}
use Rattle.sap_meaning.specs.Does.{within, effect, attempt, attempt_then, select, branch, is_constant, choose_arm, does, does_arms, does_block, does_state, does_child}
use Rattle.sap_meaning.specs.Runs.{listed_alone, run, run_arms, run_block, run_state, run_child}
use Rattle.sap_meaning.specs.Cycle.{set_inputs, root_fall, cycle, cycle_listed}
use Rattle.sap_meaning.specs.Fine.{ExactStep, ExactState, ExactGroup, ExactCommand}
use Rattle.sap_meaning.specs.Laws.{ListsServe}
use Rattle.sap_meaning.specs.Walks.{Every, EveryInArms, EveryInBlock}

abbrev Alike : (ℕ → Store → After) → (ℕ → Store → After) → Type 0
Alike f g = (pc : ℕ) (s : Store) → f pc s ≡ g pc s

same_test : (h k : ℕ → Bool) → ((x : ℕ) → h x ≡ k x) → h ≡ k
same_test h k e = λ i x. e x i

then_same : (a b : After) (f g : Store → After) → a ≡ b → ((s : Store) → f s ≡ g s) → and_then a f ≡ and_then b g
then_same a b f g e h = rw e (ap (λ (r : After). let z : After = record { store = r.store; refused = b.refused ++ r.refused } in z) (h b.store))

module _ (w : World) (at : Home) (enter enter' : ℕ → ℕ → Store → After) (same : (n : ℕ) → Alike (enter n) (enter' n)) where
  effect_same : (k : Step) (pc : ℕ) (b s : Store) → effect (within w at enter) k pc b s ≡ effect (within w at enter') k pc b s
  unfolding effect
  effect_same (fall_to_child site hang) pc b s = same _ _ s
  effect_same _ pc b s = refl

  attempt_same : (k : Step) (h i : ℕ → Bool) (f g : ℕ → Store → After) → ((x : ℕ) → h x ≡ i x) → Alike f g → Alike (attempt (within w at enter) k h f) (attempt (within w at enter') k i g)
  unfolding attempt
  attempt_same k h i f g e a pc s = rw (same_test h i e) (elim (cases_Bool (test w at k pc s)) [
    | inl t ↦ rw t (effect_same k pc s _)
    | inr t ↦ rw t (ap (λ (r : After). let z : After =
        record { store = r.store; refused = record { site = site_of k; level = w.order.join pc (guard w at k s) } ∷ r.refused } in z) (a _ _))
  ])

  attempt_then_same : (k : Step) (h i : ℕ → Bool) (f f' g g' : ℕ → Store → After) → ((x : ℕ) → h x ≡ i x) → Alike f f' → Alike g g'
      → Alike (attempt_then (within w at enter) k h f g) (attempt_then (within w at enter') k i f' g')
  unfolding attempt_then
  attempt_then_same k h i f f' g g' e a b pc s = rw (same_test h i e) (elim (cases_Bool (test w at k pc s)) [
    | inl t ↦ rw t (then_same _ _ _ _ (effect_same k pc s _) (λ r. a (w.order.join pc (guard w at k s)) r))
    | inr t ↦ rw t (ap (λ (r : After). let z : After =
        record { store = r.store; refused = record { site = site_of k; level = w.order.join pc (guard w at k s) } ∷ r.refused } in z) (b _ _))
  ])

  pick_same : (e : Term ℕ) (h i : ℕ → Bool) (f g : ℕ → ℕ → Store → After) → ((x : ℕ) → h x ≡ i x) → ((v : ℕ) → Alike (f v) (g v)) → Alike (select w e h f) (select w e i g)
  unfolding select
  pick_same e h i f g c a pc s = rw (same_test h i c) (a _ _ _)

  choose_same : (cs : List ℕ) (f g : ℕ → Store → After) (j k : ℕ → ℕ → Store → After) (v : ℕ) → Alike f g → Alike (j v) (k v) → Alike (choose_arm cs f j v) (choose_arm cs g k v)
  choose_same cs f g j k v a b pc s = elim (cases_Bool (is_constant cs v)) [ inl t ↦ rw t (a _ _) | inr t ↦ rw t (b _ _) ]

  select_same : (e : Term ℕ) (h i : ℕ → Bool) (f g j k : ℕ → Store → After) → ((x : ℕ) → h x ≡ i x) → Alike f j → Alike g k
      → Alike (select w e h (branch f g)) (select w e i (branch j k))
  unfolding select
  select_same e h i f g j k c a b pc s = rw (same_test h i c) (elim (cases_Bool (nat_eq (value w e s) 0)) [ inl t ↦ rw t (b _ _) | inr t ↦ rw t (a _ _) ])

  alone_same : (k : Step) → ExactStep w at k → (x : ℕ) → listed_alone w at k x ≡ raised_alone w at k x
  alone_same (fall_to_child site hang) fine x = fine x
  alone_same _ fine x = refl

  mutual
    unfolding run run_arms run_block does does_arms does_block

    run_same : (c : Command) → Every (ExactCommand w at) c → Alike (run (within w at enter) c) (does (within w at enter') c)
    run_same (lone k) fine = attempt_same k _ _ _ _ (alone_same k fine) (λ pc s. refl)
    run_same (try k hang h) fine = attempt_same k _ _ _ _ fine.0 (block_same h fine.1)
    run_same (if_else hang e a b) fine = select_same e _ _ _ _ _ _ fine.0 (block_same a fine.1) (block_same b fine.2)
    run_same (try_then k hang a b) fine = attempt_then_same k _ _ _ _ _ _ fine.0 (block_same a fine.1) (block_same b fine.2)
    run_same (case_of hang e arms) fine = pick_same e _ _ _ _ fine.0 (λ v. arms_same arms fine.1 v)

    arms_same : (arms : Arms) → EveryInArms (ExactCommand w at) arms → (v : ℕ) → Alike (run_arms (within w at enter) arms v) (does_arms (within w at enter') arms v)
    arms_same (last_arm b) fine v = block_same b fine
    arms_same (and_arm cs b arms) fine v =
        choose_same cs _ _ (run_arms (within w at enter) arms) (does_arms (within w at enter') arms) v (block_same b fine.0) (arms_same arms fine.1 v)

    pub block_same : (b : Block) → EveryInBlock (ExactCommand w at) b → Alike (run_block (within w at enter) b) (does_block (within w at enter') b)
    block_same end_block fine pc s = refl
    block_same (command_then c cs) fine pc s = then_same _ _ _ _ (run_same c fine.0 pc s) (λ r. block_same cs fine.1 pc r)

module _ (w : World) where
  mutual
    unfolding run_state run_child does_state does_child

    pub state_same : (t : State) (p : ℕ) → ExactState w p t → Alike (run_state w t p) (does_state w t p)
    state_same (state_node e b g) p fine pc s =
        block_same w (record { state = e; parent = p; children = g }) (run_child w g e) (does_child w g e) (λ n. child_same g e fine.1 n) b fine.0 pc s

    pub child_same : (g : Group) (p : ℕ) → ExactGroup w p g → (n : ℕ) → Alike (run_child w g p n) (does_child w g p n)
    child_same no_node p fine n pc s = refl
    child_same (and_node t g) p fine zero pc s = state_same t p fine.0 pc s
    child_same (and_node t g) p fine (suc n) pc s = child_same g p fine.1 n pc s

root_same : (w : World) (h i : ℕ → Bool) (p : ℕ) → ((x : ℕ) → h x ≡ i x) → (g : Group) → ExactGroup w p g → (n : ℕ) (s : Store)
    → root_fall w h (λ t. run_state w t p) g n s ≡ root_fall w i (λ t. does_state w t p) g n s
unfolding root_fall
root_same w h i p e no_node fine n s = refl
root_same w h i p e (and_node (state_node c b k) g) fine zero s = rw (same_test h i e) (state_same w (state_node c b k) p fine.0 _ _)
root_same w h i p e (and_node t g) fine (suc n) s = root_same w h i p e g fine.1 n s

pub lists_law : ListsServe
unfolding cycle cycle_listed
lists_law p exact inputs s =
    let begun = set_inputs p.world inputs s in
    ap (λ (a : After). let z : After = record { store = settle a.store; refused = a.refused } in z)
    (root_same p.world (listed p.hang) (root_touches p.world p.states) (root p.world) exact.hang p.states exact.lists (child (root p.world) begun) begun)
