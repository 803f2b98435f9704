-- What a program has that comes from a well-formed design.
use Rattle.std.specs.Prelude.{◌≡◌, ℕ, zero, suc, ◌<◌, ◌≤◌, Bool, true, false, ◌||◌, List, nat_eq}
use Rattle.sap_lattice.specs.Order.{Laws}
use Rattle.sap_maps.specs.Term.{Term, EveryRead}
use Rattle.sap_meaning.specs.Program.{World, Program, entity, is_dynamic, is_input, is_register, is_memory, is_state, authority, children, root, place, last, below, listed, LevelTerm, Step, assign, write, retag, retag_cell, go_to, fall_to_child, Command, lone, try, if_else, try_then, case_of, Arms, last_arm, and_arm, Block, end_block, command_then, State, state_node, Group, no_node, and_node}
use Rattle.sap_meaning.specs.Walks.{EveryLevel, Every, EveryInBlock, Asks}
use Rattle.sap_meaning.specs.Checks.{Home}
use Rattle.sap_meaning.specs.Touches.{among, touches, root_touches, block_retags, group_retags}
use Rattle.sap_meaning.specs.Once.{OnceGroup}

-- What is read plain is an input or a register, and what is read by an index is a memory.
abbrev pub FineTerm : World → Term ℕ → Type 0
FineTerm w e = EveryRead (λ x. (is_input w x || is_register w x) ≡ true) (λ m i. is_memory w m ≡ true) e

-- A written level is one of the lattice.
abbrev pub FineLevel : World → LevelTerm → Type 0
FineLevel w n = EveryLevel (λ level. level < w.order.count) (FineTerm w) n

-- How many states a group has.
abbrev pub size : Group → ℕ
size no_node = 0
size (and_node t g) = suc (size g)

-- What is assigned is a register or a memory, what gets a level is enforced, and a goto's target is one of the states
-- of the group in which the body's state is. A fall has children to fall into.
abbrev pub FineStep : World → (siblings children : Group) → Step → Type 0
FineStep w q g (assign site x e) = (is_register w x ≡ true) × FineTerm w e
FineStep w q g (write site m i e) = (is_memory w m ≡ true) × FineTerm w i × FineTerm w e
FineStep w q g (retag site x n) = ((is_register w x || is_state w x) ≡ true) × (is_dynamic w x ≡ false) × FineLevel w n
FineStep w q g (retag_cell site m j n) = (is_memory w m ≡ true) × (is_dynamic w m ≡ false)
    × FineTerm w j × FineLevel w n
FineStep w q g (go_to site target) = among q target ≡ true
FineStep w q g (fall_to_child site hang) = 0 < size g

-- A command itself, without its blocks, is fine: its step, its condition or its number is.
abbrev pub FineCommand : World → (siblings children : Group) → Command → Type 0
FineCommand w q g c = Asks (FineStep w q g) (FineTerm w) c

-- The step is a `goto` or a `fall`.
abbrev pub transfers : Step → Bool
transfers (assign site x e) = false
transfers (write site m i e) = false
transfers (retag site x n) = false
transfers (retag_cell site m j n) = false
transfers (go_to site target) = true
transfers (fall_to_child site hang) = true

-- The command has no step of its own, or its step is no transfer.
abbrev pub NoTransfer : Command → Type 0
NoTransfer c = Asks (λ k. transfers k ≡ false) (λ e. Unit {0}) c

-- No transfer is in the command or in its blocks.
abbrev pub Open : Command → Type 0
Open c = Every NoTransfer c

-- A list closes: its last command is a transfer, whose handler closes, or an `if` whose branches close, or a `case`, or
-- a `then` whose command is no transfer, all of whose blocks close; and all before it are open.
abbrev mutual
  pub Closes : Block → Type 0
  Closes end_block = ⊥
  Closes (command_then c end_block) = Final c
  Closes (command_then c (command_then d ds)) = Open c × Closes (command_then d ds)

  pub Final : Command → Type 0
  Final (lone k) = transfers k ≡ true
  Final (try k hang h) = (transfers k ≡ true) × Closes h
  Final (if_else hang e a b) = Closes a × Closes b
  Final (try_then k hang a b) = (transfers k ≡ false) × Closes a × Closes b
  Final (case_of hang e arms) = ClosingArms arms

  pub ClosingArms : Arms → Type 0
  ClosingArms (last_arm b) = Closes b
  ClosingArms (and_arm constants b arms) = Closes b × ClosingArms arms

-- `x` is a state of the group, or below one.
abbrev pub inside : Group → ℕ → Bool
inside no_node x = false
inside (and_node (state_node s b k) g) x = nat_eq x s || (inside k x || inside g x)

-- The number of a state among the entities.
abbrev pub number_of : State → ℕ
number_of (state_node s b g) = s

-- The children of a state.
abbrev pub kids_of : State → Group
kids_of (state_node s b g) = g

-- The state is the n-th of the group.
abbrev pub Nth : Group → ℕ → State → Type 0
Nth no_node n t = ⊥
Nth (and_node a g) zero t = a ≡ t
Nth (and_node a g) (suc n) t = Nth g n t

-- What is asked of the state with the number s, the body b and the children g, which is the n-th of the group q.
pub record FineNode (w : World) (q : Group) (n s : ℕ) (b : Block) (g : Group) : Type 0 where
  pub kind : is_state w s ≡ true
  pub placed : place w s ≡ n
  pub count : children w s ≡ size g
  -- the states of g and those below them are the ones with the numbers after its own, up to its last
  pub numbers : (x : ℕ) → inside g x ≡ below w s x
  pub itself : s ≤ last w s
  pub declared : last w s < root w
  pub steps : EveryInBlock (FineCommand w q g) b
  pub closes : Closes b
  -- a body retags neither its own state nor one above or below it
  pub retags_itself : (block_retags b s || group_retags g s) ≡ false
  pub retags_below : (x : ℕ) → inside g x ≡ true → block_retags b x ≡ false

-- A state stands at a place of its group as its entity says, and so do its descendants.
abbrev mutual
  pub FineState : World → (siblings : Group) → (place : ℕ) → State → Type 0
  FineState w q n (state_node s b g) = FineNode w q n s b g × FineGroup w g 0 g

  -- The states of q from the n-th on, each with numbers before those of the later ones.
  pub FineGroup : World → (siblings : Group) → (place : ℕ) → Group → Type 0
  FineGroup w q n no_node = Unit {0}
  FineGroup w q n (and_node t g) = FineState w q n t × FineGroup w q (suc n) g
      × ((x : ℕ) → inside g x ≡ true → last w (number_of t) < x)

-- The list has exactly the entities that the command touches.
abbrev pub ExactList : World → Home → List Bool → Command → Type 0
ExactList w at hang c = (x : ℕ) → listed hang x ≡ touches w at c x

-- The list of a `fall` has exactly what it touches; no other step has a list.
abbrev pub ExactStep : World → Home → Step → Type 0
ExactStep w at (assign site x e) = Unit {0}
ExactStep w at (write site m i e) = Unit {0}
ExactStep w at (retag site x n) = Unit {0}
ExactStep w at (retag_cell site m j n) = Unit {0}
ExactStep w at (go_to site target) = Unit {0}
ExactStep w at (fall_to_child site hang) = ExactList w at hang (lone (fall_to_child site hang))

-- The list of a command itself, or of the step that it is, has exactly what it touches.
abbrev pub ExactCommand : World → Home → Command → Type 0
ExactCommand w at (lone k) = ExactStep w at k
ExactCommand w at (try k hang h) = ExactList w at hang (try k hang h)
ExactCommand w at (if_else hang e a b) = ExactList w at hang (if_else hang e a b)
ExactCommand w at (try_then k hang a b) = ExactList w at hang (try_then k hang a b)
ExactCommand w at (case_of hang e arms) = ExactList w at hang (case_of hang e arms)

-- The stored lists in a state's body and in those of its descendants are what the commands touch.
abbrev mutual
  pub ExactState : World → (parent : ℕ) → State → Type 0
  ExactState w p (state_node s b g) = EveryInBlock
      (ExactCommand w (record { state = s; parent = p; children = g })) b × ExactGroup w s g

  pub ExactGroup : World → (parent : ℕ) → Group → Type 0
  ExactGroup w p no_node = Unit {0}
  ExactGroup w p (and_node t g) = ExactState w p t × ExactGroup w p g

-- Each list by which a cycle of the program runs is what its command, or the root's fall, touches. Of the list of a
-- `fall` with a handler nothing is asked, since no cycle reads it.
pub record ExactProgram (p : Program) : Type 0 where
  pub lists : ExactGroup p.world (root p.world) p.states
  pub hang : (x : ℕ) → listed p.hang x ≡ root_touches p.world p.states x

-- What the laws ask of a program: a lawful order, states that are as their entities say, no memory written twice on a
-- path, and dynamic inputs.
pub record FineProgram (p : Program) : Type 0 where
  pub order : Laws p.world.order
  pub states : FineGroup p.world p.states 0 p.states
  pub count : children p.world (root p.world) ≡ size p.states
  pub once : OnceGroup p.states
  pub inputs : (x : ℕ) → is_input p.world x ≡ true → is_dynamic p.world x ≡ true
  -- each enforced entity starts at or above its authority
  pub above : (x : ℕ) → is_dynamic p.world x ≡ false
      → p.world.order.le (authority p.world x) (entity p.world x).declared ≡ true
