-- Walks over a program. A definition that asks the same of all parts, or gathers from all of them, is a walk, and
-- says what it asks or has of one.
use Rattle.std.specs.Prelude.{ℕ, Bool, false, ◌||◌, List, [], ◌∷◌}
use Rattle.sap_maps.specs.Term.{Term}
use Rattle.sap_meaning.specs.Program.{LevelTerm, fixed, of, at_place, both, Step, Command, lone, try, if_else, try_then, case_of, Arms, last_arm, and_arm, Block, end_block, command_then, State, state_node, Group, no_node, and_node}

-- P holds of each written level, Q of each expression whose level is taken.
module _ (P : ℕ → Type 0) (Q : Term ℕ → Type 0) where
  -- `P` holds of each written level of a tag expression, and `Q` of each expression in it.
  abbrev pub EveryLevel : LevelTerm → Type 0
  EveryLevel (fixed n) = P n
  EveryLevel (of e) = Q e
  EveryLevel (at_place e) = Q e
  EveryLevel (both a b) = EveryLevel a × EveryLevel b

-- P holds of a command and of each command inside it.
module _ (P : Command → Type 0) where
  -- P holds of each command within a command, itself included where it has a step.
  abbrev mutual
    pub Every : Command → Type 0
    Every (lone k) = P (lone k)
    Every (try k hang h) = P (try k hang h) × EveryInBlock h
    Every (if_else hang e a b) = P (if_else hang e a b) × EveryInBlock a × EveryInBlock b
    Every (try_then k hang a b) = P (try_then k hang a b) × EveryInBlock a × EveryInBlock b
    Every (case_of hang e arms) = P (case_of hang e arms) × EveryInArms arms

    pub EveryInArms : Arms → Type 0
    EveryInArms (last_arm b) = EveryInBlock b
    EveryInArms (and_arm constants b arms) = EveryInBlock b × EveryInArms arms

    pub EveryInBlock : Block → Type 0
    EveryInBlock end_block = Unit {0}
    EveryInBlock (command_then c cs) = Every c × EveryInBlock cs

-- P holds of a command's step, Q of its condition or number.
abbrev pub Asks : (P : Step → Type 0) → (Q : Term ℕ → Type 0) → Command → Type 0
Asks P Q (lone k) = P k
Asks P Q (try k hang h) = P k
Asks P Q (if_else hang e a b) = Q e
Asks P Q (try_then k hang a b) = P k
Asks P Q (case_of hang e arms) = Q e

-- A fold: `own c below` is what a command has where its blocks have `below`, which is what their commands have,
-- joined in the order of the text, or `none`.
module _ {A : Type 0} (none : A) (join : A → A → A) (own : Command → (below : A) → A) where
  -- A value made from a command from below: `own` of the command and of what its blocks give, joined in order.
  abbrev mutual
    pub folded : Command → A
    folded (lone k) = own (lone k) none
    folded (try k hang h) = own (try k hang h) (folded_in_block h)
    folded (if_else hang e a b) = own (if_else hang e a b) (join (folded_in_block a) (folded_in_block b))
    folded (try_then k hang a b) = own (try_then k hang a b) (join (folded_in_block a) (folded_in_block b))
    folded (case_of hang e arms) = own (case_of hang e arms) (folded_in_arms arms)

    pub folded_in_arms : Arms → A
    folded_in_arms (last_arm b) = folded_in_block b
    folded_in_arms (and_arm constants b arms) = join (folded_in_block b) (folded_in_arms arms)

    pub folded_in_block : Block → A
    folded_in_block end_block = none
    folded_in_block (command_then c cs) = join (folded c) (folded_in_block cs)

-- What `f` has of each step is joined in the order of the text.
module _ {A : Type 0} (none : A) (join : A → A → A) (f : Step → A) where
  -- What a command's own step gives, joined with what its blocks give.
  abbrev pub with_step : Command → (below : A) → A
  with_step (lone k) below = f k
  with_step (try k hang h) below = join (f k) below
  with_step (if_else hang e a b) below = below
  with_step (try_then k hang a b) below = join (f k) below
  with_step (case_of hang e arms) below = below

  -- What f gives for the steps of a command, joined in order.
  abbrev pub gathered : Command → A
  gathered c = folded none join with_step c

  -- What f gives for the steps of the arms of a `case`, joined in order.
  abbrev pub gathered_in_arms : Arms → A
  gathered_in_arms arms = folded_in_arms none join with_step arms

  -- What f gives for the steps of a block, joined in order.
  abbrev pub gathered_in_block : Block → A
  gathered_in_block b = folded_in_block none join with_step b

-- The commands are the same with other steps and other lists of what depends on them.
module _ (step : Step → Step) (hang_of : Command → List Bool) where
  -- A command with each step and each list of what hangs replaced.
  abbrev mutual
    pub mapped : Command → Command
    mapped (lone k) = lone (step k)
    mapped (try k hang h) = try (step k) (hang_of (try k hang h)) (mapped_block h)
    mapped (if_else hang e a b) = if_else (hang_of (if_else hang e a b)) e (mapped_block a) (mapped_block b)
    mapped (try_then k hang a b) = try_then (step k) (hang_of (try_then k hang a b)) (mapped_block a) (mapped_block b)
    mapped (case_of hang e arms) = case_of (hang_of (case_of hang e arms)) e (mapped_arms arms)

    pub mapped_arms : Arms → Arms
    mapped_arms (last_arm b) = last_arm (mapped_block b)
    mapped_arms (and_arm constants b arms) = and_arm constants (mapped_block b) (mapped_arms arms)

    pub mapped_block : Block → Block
    mapped_block end_block = end_block
    mapped_block (command_then c cs) = command_then (mapped c) (mapped_block cs)

-- `p` holds of some step of a command, those in its blocks included.
abbrev pub some : (p : Step → Bool) → Command → Bool
some p c = gathered false ◌||◌ p c

-- Some step of the arms of a `case` has a property.
abbrev pub some_in_arms : (p : Step → Bool) → Arms → Bool
some_in_arms p arms = gathered_in_arms false ◌||◌ p arms

-- Some step of a block has a property.
abbrev pub some_in_block : (p : Step → Bool) → Block → Bool
some_in_block p b = gathered_in_block false ◌||◌ p b

-- The constants of each arm.
abbrev pub arm_constants : Arms → List (List ℕ)
arm_constants (last_arm b) = []
arm_constants (and_arm constants b arms) = constants ∷ arm_constants arms

-- The block that is a state's body.
abbrev pub body_of : State → Block
body_of (state_node s b g) = b

-- P holds of the body of a state, and of that of each state below it.
module _ (P : Block → Type 0) where
  -- P holds of the body of a state and of all states below it.
  abbrev mutual
    pub EveryBody : State → Type 0
    EveryBody (state_node s b g) = P b × EveryBodyIn g

    pub EveryBodyIn : Group → Type 0
    EveryBodyIn no_node = Unit {0}
    EveryBodyIn (and_node t g) = EveryBody t × EveryBodyIn g

-- What `f` has of each state is joined, a state before those below it.
module _ {A : Type 0} (none : A) (join : A → A → A) (f : State → A) where
  -- What f gives for a state and all states below it, joined in order.
  abbrev mutual
    pub gathered_from : State → A
    gathered_from (state_node s b g) = join (f (state_node s b g)) (gathered_from_group g)

    pub gathered_from_group : Group → A
    gathered_from_group no_node = none
    gathered_from_group (and_node t g) = join (gathered_from t) (gathered_from_group g)

-- `p` holds of the body of a state, or of one below it.
abbrev pub some_body : (p : Block → Bool) → State → Bool
some_body p t = gathered_from false ◌||◌ (λ a. p (body_of a)) t

-- The body of some state of a group, or of a descendant, has a property.
abbrev pub some_body_in : (p : Block → Bool) → Group → Bool
some_body_in p g = gathered_from_group false ◌||◌ (λ a. p (body_of a)) g
