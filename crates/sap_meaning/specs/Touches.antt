-- What a command assigns and retags, and what it touches: what hangs on it.
use Rattle.std.specs.Prelude.{ℕ, Bool, false, ◌||◌, ◌&&◌, nat_eq}
use Rattle.sap_meaning.specs.Program.{World, is_dynamic, Step, assign, write, retag, retag_cell, go_to, fall_to_child, Command, lone, Arms, Block, State, state_node, Group, no_node, and_node}
use Rattle.sap_meaning.specs.Walks.{some, some_in_arms, some_in_block, some_body, some_body_in}
use Rattle.sap_meaning.specs.Checks.{Home}

-- A step assigns the register or memory `x`.
abbrev pub step_assigns : Step → ℕ → Bool
step_assigns (assign site y e) x = nat_eq x y
step_assigns (write site m i e) x = nat_eq x m
step_assigns _ x = false

-- A command, or one inside it, assigns x.
abbrev pub assigns : Command → ℕ → Bool
assigns c x = some (λ k. step_assigns k x) c

-- Some step of the arms assigns or writes this entity.
abbrev pub arms_assign : Arms → ℕ → Bool
arms_assign arms x = some_in_arms (λ k. step_assigns k x) arms

-- Some step of a block assigns or writes this entity.
abbrev pub block_assigns : Block → ℕ → Bool
block_assigns b x = some_in_block (λ k. step_assigns k x) b

-- The body of a state, or of one below it, assigns x.
abbrev pub state_assigns : State → ℕ → Bool
state_assigns t x = some_body (λ b. block_assigns b x) t

-- Some step in the bodies of a group, or of their descendants, assigns or writes this entity.
abbrev pub group_assigns : Group → ℕ → Bool
group_assigns g x = some_body_in (λ b. block_assigns b x) g

-- A step gives the register or state x a level.
abbrev pub step_retags : Step → ℕ → Bool
step_retags (retag site y n) x = nat_eq x y
step_retags _ x = false

-- Some step of a command retags this entity.
abbrev pub retags : Command → ℕ → Bool
retags c x = some (λ k. step_retags k x) c

-- Some step of a block retags this entity.
abbrev pub block_retags : Block → ℕ → Bool
block_retags b x = some_in_block (λ k. step_retags k x) b

-- Some step in a state's body, or in those of its descendants, retags this entity.
abbrev pub state_retags : State → ℕ → Bool
state_retags t x = some_body (λ b. block_retags b x) t

-- Some step in the bodies of a group, or of their descendants, retags this entity.
abbrev pub group_retags : Group → ℕ → Bool
group_retags g x = some_body_in (λ b. block_retags b x) g

-- The entity `x` is one of the states of a group.
abbrev pub among : Group → ℕ → Bool
among no_node x = false
among (and_node (state_node s b k) g) x = nat_eq x s || among g x

-- A step in the body of the state `s` with the children `g` concerns the entity `x`, dynamic or not. An assignment or a
-- write concerns its target, and a `goto` the state `s`. A `fall` concerns the children and what is assigned in their
-- bodies and in those below them.
abbrev pub step_hangs : ℕ → Group → Step → ℕ → Bool
step_hangs s g (go_to site target) x = nat_eq x s
step_hangs s g (fall_to_child site hang) x = among g x || group_assigns g x
step_hangs s g k x = step_assigns k x

-- Some step of a command concerns the entity `x`, dynamic or not.
abbrev pub hangs : ℕ → Group → Command → ℕ → Bool
hangs s g c x = some (λ k. step_hangs s g k x) c

-- Some step of the arms of a `case` concerns the entity `x`, dynamic or not.
abbrev pub arms_hang : ℕ → Group → Arms → ℕ → Bool
arms_hang s g arms x = some_in_arms (λ k. step_hangs s g k x) arms

-- Some step of a block concerns the entity `x`, dynamic or not.
abbrev pub block_hangs : ℕ → Group → Block → ℕ → Bool
block_hangs s g b x = some_in_block (λ k. step_hangs s g k x) b

-- A command touches the entity `x`: `x` is dynamic, and some step of the command concerns it, as `step_hangs` says.
abbrev pub touches : World → Home → Command → ℕ → Bool
touches w at c x = is_dynamic w x && hangs at.state at.children c x

-- The root's fall touches the entity `x`: a dynamic top-level state, or a dynamic register or memory that the body of
-- some state assigns.
abbrev pub root_touches : World → Group → ℕ → Bool
root_touches w g x = is_dynamic w x && (among g x || group_assigns g x)

-- What a step with no handler raises: what a goto or a fall touches, and else nothing.
abbrev pub raised_alone : World → Home → Step → ℕ → Bool
raised_alone w at (assign site y e) x = false
raised_alone w at (write site m i e) x = false
raised_alone w at (retag site y n) x = false
raised_alone w at (retag_cell site m j n) x = false
raised_alone w at (go_to site target) x = touches w at (lone (go_to site target)) x
raised_alone w at (fall_to_child site hang) x = touches w at (lone (fall_to_child site hang)) x
