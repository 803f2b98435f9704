-- What hangs on the points of a program, by their numbers. Each `if`, `otherwise`, `fall`, `then` and `case` is a
-- point, in the order of these words; the `otherwise` of a `then` is none.
use Rattle.std.specs.Prelude.{ℕ, ◌+◌, Bool, List}
use Rattle.sap_hang.specs.Hang.{Table, says, says_of_root}
use Rattle.sap_meaning.specs.Program.{Step, assign, write, retag, retag_cell, go_to, fall_to_child, Command, lone, try, if_else, try_then, case_of, Arms, last_arm, and_arm, Block, end_block, command_then, State, state_node, Group, no_node, and_node}
use Rattle.sap_meaning.specs.Walks.{folded, folded_in_arms, folded_in_block, body_of, gathered_from, gathered_from_group}
use Rattle.sap_resolved.specs.Fill.{table}

-- For each point, of each entity whether it hangs there.
abbrev pub Rows : Type 0
Rows = ℕ → List Bool

-- What a table says of n entities.
abbrev pub rows_in : (n : ℕ) → Table → Rows
rows_in n t point = table n (says t point)

-- Which entities the root touches, as a list over their numbers.
abbrev pub root_row_in : (n : ℕ) → Table → List Bool
root_row_in n t = table n (says_of_root t)

-- how many points there are

-- How many points a step is: a `fall` is one, another step none.
abbrev pub step_points : Step → ℕ
step_points (assign site x e) = 0
step_points (write site m i e) = 0
step_points (retag site x n) = 0
step_points (retag_cell site m j n) = 0
step_points (go_to site target) = 0
step_points (fall_to_child site hang) = 1

-- How many points a command is, with those in its blocks.
abbrev pub own_points : Command → (below : ℕ) → ℕ
own_points (lone k) below = step_points k
own_points (try k hang handler) below = step_points k + 1 + below
own_points (if_else hang condition a b) below = 1 + below
own_points (try_then k hang a b) below = step_points k + 1 + below
own_points (case_of hang e arms) below = 1 + below

-- How many points a command and all commands in it are.
abbrev pub command_points : Command → ℕ
command_points c = folded 0 ◌+◌ own_points c

-- How many points are in the arms of a `case`.
abbrev pub arms_points : Arms → ℕ
arms_points arms = folded_in_arms 0 ◌+◌ own_points arms

-- How many points are in a block.
abbrev pub block_points : Block → ℕ
block_points b = folded_in_block 0 ◌+◌ own_points b

-- How many points are in a state's body and in those of its descendants.
abbrev pub state_points : State → ℕ
state_points s = gathered_from 0 ◌+◌ (λ t. block_points (body_of t)) s

-- How many points are in the bodies of a group of states.
abbrev pub group_points : Group → ℕ
group_points g = gathered_from_group 0 ◌+◌ (λ t. block_points (body_of t)) g

-- with these rows at its points, of which the first has the number p

-- A step with its list, if it has one; the list of a point is found by the point's number.
abbrev pub step_with : Rows → (p : ℕ) → Step → Step
step_with r p (assign site x e) = assign site x e
step_with r p (write site m i e) = write site m i e
step_with r p (retag site x n) = retag site x n
step_with r p (retag_cell site m j n) = retag_cell site m j n
step_with r p (go_to site target) = go_to site target
step_with r p (fall_to_child site hang) = fall_to_child site (r p)

-- A command with the lists of its points.
abbrev mutual
  pub command_with : Rows → (p : ℕ) → Command → Command
  command_with r p (lone k) = lone (step_with r p k)
  command_with r p (try k hang handler) =
      try (step_with r p k) (r (p + step_points k)) (block_with r (p + step_points k + 1) handler)
  command_with r p (if_else hang condition a b) =
      if_else (r p) condition (block_with r (p + 1) a) (block_with r (p + 1 + block_points a) b)
  command_with r p (try_then k hang a b) =
      try_then (step_with r p k) (r (p + step_points k)) (block_with r (p + step_points k + 1) a)
      (block_with r (p + step_points k + 1 + block_points a) b)
  command_with r p (case_of hang e arms) = case_of (r p) e (arms_with r (p + 1) arms)

  pub arms_with : Rows → (p : ℕ) → Arms → Arms
  arms_with r p (last_arm b) = last_arm (block_with r p b)
  arms_with r p (and_arm constants b arms) =
      and_arm constants (block_with r p b) (arms_with r (p + block_points b) arms)

  pub block_with : Rows → (p : ℕ) → Block → Block
  block_with r p end_block = end_block
  block_with r p (command_then c cs) = command_then (command_with r p c) (block_with r (p + command_points c) cs)

-- A state with the lists of the points in its body and in those of its descendants.
abbrev mutual
  pub state_with : Rows → (p : ℕ) → State → State
  state_with r p (state_node s body children) =
      state_node s (block_with r p body) (group_with r (p + block_points body) children)

  pub group_with : Rows → (p : ℕ) → Group → Group
  group_with r p no_node = no_node
  group_with r p (and_node s rest) = and_node (state_with r p s) (group_with r (p + state_points s) rest)
