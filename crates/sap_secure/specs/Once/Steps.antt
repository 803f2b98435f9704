-- The steps that a cycle comes to, in order: those that have their effect and those that are refused. What a step does
-- to the store is told by `does`; here stands which step comes next.
use Rattle.std.specs.Prelude.{ℕ, zero, suc, Bool, List, [], ◌∷◌, ◌++◌, if◌then◌else◌, nat_eq}
use Rattle.sap_maps.specs.Term.{Term}
use Rattle.sap_meaning.specs.Program.{World, root, Step, assign, write, retag, retag_cell, go_to, fall_to_child, Command, lone, try, if_else, try_then, case_of, Arms, last_arm, and_arm, Block, end_block, command_then, State, state_node, Group, no_node, and_node, Program}
use Rattle.sap_meaning.specs.Store.{Store, own, level, child, raise}
use Rattle.sap_meaning.specs.Expressions.{value, tag}
use Rattle.sap_meaning.specs.Checks.{Home, child_level, guard, test}
use Rattle.sap_meaning.specs.Touches.{touches, root_touches, raised_alone}
use Rattle.sap_meaning.specs.Does.{within, does, does_child, effect, is_constant}
use Rattle.sap_meaning.specs.Cycle.{Tagged, set_inputs}

-- What comes after a step whose test held in `before`: for a fall the steps of the current child's body, `entered n`
-- being those of the n-th child's in a context; for every other step nothing.
abbrev pub onward : World → Home → (entered : ℕ → ℕ → Store → List Step) → Step → ℕ → (before : Store)
    → Store → List Step
onward w at entered (assign site x e) pc before s = []
onward w at entered (write site m i e) pc before s = []
onward w at entered (retag site x n) pc before s = []
onward w at entered (retag_cell site m j n) pc before s = []
onward w at entered (go_to site target) pc before s = []
onward w at entered (fall_to_child site hang) pc before s =
    entered (child at.state before) (w.order.join pc (child_level w at.children (child at.state before) before)) s

-- A step, and what comes after it; where it is refused, the steps of its handler.
unfoldable pub tried : World → Home → (entered : ℕ → ℕ → Store → List Step) → Step → (hangs : ℕ → Bool)
    → (handler : ℕ → Store → List Step) → ℕ → Store → List Step
tried w at entered k hangs handler pc s =
    let g = guard w at k s in
    let r = raise w.order hangs g s in
    k ∷ (if test w at k pc s then onward w at entered k pc s r else handler (w.order.join pc g) r)

-- A step with `then`, and what comes after it: where its test held, behind that the steps of the accepted part, in the
-- store that the effect leaves.
unfoldable pub tried_then : World → Home → (entered : ℕ → ℕ → Store → List Step) → Step
    → (hangs : ℕ → Bool) → (accepted refused : ℕ → Store → List Step) → ℕ → Store → List Step
tried_then w at entered k hangs accepted refused pc s =
    let g = guard w at k s in
    let r = raise w.order hangs g s in
    let inside = w.order.join pc g in
    k ∷ (if test w at k pc s
    then onward w at entered k pc s r ++ accepted inside
    (effect (within w at (does_child w at.children at.state)) k pc s r).store
    else refused inside r)

-- The steps that the number of an expression picks.
unfoldable pub picked : World → Term ℕ → (hangs : ℕ → Bool) → (ℕ → ℕ → Store → List Step) → ℕ → Store → List Step
picked w e hangs pick pc s =
    let t = tag w e s in
    pick (value w e s) (w.order.join pc t) (raise w.order hangs t s)

-- The steps of an arm where the number is one of its constants, else those of the other arms.
abbrev pub arm_steps : List ℕ → (ℕ → Store → List Step) → (ℕ → ℕ → Store → List Step) → ℕ → ℕ → Store → List Step
arm_steps constants arm others n pc s = if is_constant constants n then arm pc s else others n pc s

-- The steps of the branch that is taken.
unfoldable pub chosen : World → Term ℕ → (hangs : ℕ → Bool)
    → (then_steps else_steps : ℕ → Store → List Step) → ℕ → Store → List Step
chosen w e hangs then_steps else_steps pc s =
    let t = tag w e s in
    let r = raise w.order hangs t s in
    if nat_eq (value w e s) 0 then else_steps (w.order.join pc t) r else then_steps (w.order.join pc t) r

unfoldable mutual
  pub steps : World → Home → (entered : ℕ → ℕ → Store → List Step) → Command → ℕ → Store → List Step
  steps w at entered (lone k) = tried w at entered k (raised_alone w at k) (λ pc s. [])
  steps w at entered (try k hang h) = tried w at entered k (touches w at (try k hang h)) (block_steps w at entered h)
  steps w at entered (if_else hang e a b) =
      chosen w e (touches w at (if_else hang e a b)) (block_steps w at entered a) (block_steps w at entered b)
  steps w at entered (try_then k hang a b) =
      tried_then w at entered k (touches w at (try_then k hang a b)) (block_steps w at entered a)
      (block_steps w at entered b)
  steps w at entered (case_of hang e arms) =
      picked w e (touches w at (case_of hang e arms)) (arms_steps w at entered arms)

  -- Of the first arm that has the number, else of the last block.
  pub arms_steps : World → Home → (entered : ℕ → ℕ → Store → List Step) → Arms → ℕ → ℕ → Store → List Step
  arms_steps w at entered (last_arm b) = λ n. block_steps w at entered b
  arms_steps w at entered (and_arm constants b arms) =
      arm_steps constants (block_steps w at entered b) (arms_steps w at entered arms)

  -- Of a list of commands, each in the store that the ones before it leave.
  pub block_steps : World → Home → (entered : ℕ → ℕ → Store → List Step) → Block → ℕ → Store → List Step
  block_steps w at entered end_block pc s = []
  block_steps w at entered (command_then c cs) pc s =
      steps w at entered c pc s ++ block_steps w at entered cs pc
      (does (within w at (does_child w at.children at.state)) c pc s).store

unfoldable mutual
  -- Of a state's body.
  pub state_steps : World → State → (parent : ℕ) → ℕ → Store → List Step
  state_steps w (state_node s b g) parent pc st =
      block_steps w (record { state = s; parent = parent; children = g }) (child_steps w g s) b pc st

  -- Of the body of the n-th state of the parent's group.
  pub child_steps : World → Group → (parent n : ℕ) → ℕ → Store → List Step
  child_steps w no_node parent n pc st = []
  child_steps w (and_node t g) parent zero pc st = state_steps w t parent pc st
  child_steps w (and_node t g) parent (suc n) pc st = child_steps w g parent n pc st

-- The steps of the body of the n-th top-level state, into which the root falls.
unfoldable pub root_steps : World → (hangs : ℕ → Bool) → Group → (n : ℕ) → Store → List Step
root_steps w hangs no_node n s = []
root_steps w hangs (and_node (state_node c b k) g) zero s =
    let t = level w (own c) s in
    state_steps w (state_node c b k) (root w) t (raise w.order hangs t s)
root_steps w hangs (and_node t g) (suc n) s = root_steps w hangs g n s

-- The steps to which a cycle comes, in order.
unfoldable pub cycle_steps : Program → List Tagged → Store → List Step
cycle_steps p inputs s =
    let w = p.world in
    let begun = set_inputs w inputs s in
    root_steps w (root_touches w p.states) p.states (child (root w) begun) begun
