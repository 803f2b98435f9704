-- How large programs with numbers for names are.
use Rattle.std.specs.Prelude.{ℕ, ◌+◌, length}
use Rattle.sap_meaning.specs.Program.{LevelTerm, fixed, of, at_place, both, Step, assign, write, retag, retag_cell, go_to, fall_to_child, Command, lone, try, if_else, try_then, case_of, Arms, last_arm, and_arm, Block, State, Group}
use Rattle.sap_meaning.specs.Walks.{folded, folded_in_arms, folded_in_block, body_of, gathered_from, gathered_from_group}
use Rattle.sap_size.specs.Terms.{term_size}

-- The nodes of expressions, tag expressions, commands and states; a join of levels counts by its parts alone.

-- The nodes of a level's term.
abbrev pub level_size : LevelTerm → ℕ
level_size (fixed n) = 1
level_size (of e) = 1 + term_size e
level_size (at_place e) = 1 + term_size e
level_size (both a b) = level_size a + level_size b

-- The nodes of a step's terms.
abbrev pub step_size : Step → ℕ
step_size (assign site x e) = term_size e
step_size (write site m i e) = term_size i + term_size e
step_size (retag site x n) = level_size n
step_size (retag_cell site m j n) = term_size j + level_size n
step_size (go_to site target) = 0
step_size (fall_to_child site hang) = 0

-- The constants of a `case`.
abbrev pub constant_count : Arms → ℕ
constant_count (last_arm b) = 0
constant_count (and_arm constants b arms) = length constants + constant_count arms

-- A command where its blocks have so many: a step with its handler is one.
abbrev pub own_size : Command → (below : ℕ) → ℕ
own_size (lone s) below = 1 + step_size s
own_size (try s hang h) below = 1 + step_size s + below
own_size (if_else hang e a b) below = 1 + term_size e + below
own_size (try_then s hang a b) below = 1 + step_size s + below
own_size (case_of hang e arms) below = 1 + term_size e + constant_count arms + below

-- The nodes of a command.
abbrev pub command_size : Command → ℕ
command_size c = folded 0 ◌+◌ own_size c

-- The blocks of arms.
abbrev pub arms_size : Arms → ℕ
arms_size arms = folded_in_arms 0 ◌+◌ own_size arms

-- The nodes of a block.
abbrev pub block_size : Block → ℕ
block_size b = folded_in_block 0 ◌+◌ own_size b

-- The nodes of a state's body, and one for the state.
abbrev pub body_size : State → ℕ
body_size t = 1 + block_size (body_of t)

-- The nodes of a state and of all states below it.
abbrev pub state_size : State → ℕ
state_size t = gathered_from 0 ◌+◌ body_size t

-- The nodes of a group and of all states below it.
abbrev pub group_size : Group → ℕ
group_size g = gathered_from_group 0 ◌+◌ body_size g

-- How many states a group has, those below them counted.
abbrev pub states_of : State → ℕ
states_of t = gathered_from 0 ◌+◌ (λ s. 1) t

-- How many states a group has, with all below.
abbrev pub states_below : Group → ℕ
states_below g = gathered_from_group 0 ◌+◌ (λ s. 1) g
