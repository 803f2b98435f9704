-- What hangs on each command that raises, as a list over the entities' numbers; and the program of a design.
use Rattle.std.specs.Prelude.{ℕ, zero, suc, Bool, List, [], ◌∷◌, ◌++◌}
use Rattle.sap_tree.specs.Syntax.{DesignTree}
use Rattle.sap_meaning.specs.Program.{World, root, Step, assign, write, retag, retag_cell, go_to, fall_to_child, Command, lone, Arms, Block, State, state_node, Group, no_node, and_node, Program}
use Rattle.sap_meaning.specs.Walks.{mapped, mapped_arms, mapped_block}
use Rattle.sap_meaning.specs.Checks.{Home}
use Rattle.sap_meaning.specs.Touches.{touches, root_touches}
use Rattle.sap_lattice.specs.Levels.{Levels}
use Rattle.sap_resolved.specs.Worlds.{world_of}
use Rattle.sap_resolved.specs.Resolve.{states_of}

-- `table` has what a test says of the numbers below `n`, in order.
abbrev pub table : ℕ → (ℕ → Bool) → List Bool
table zero test = []
table (suc n) test = table n test ++ test n ∷ []

-- A step with the list of what it touches; only a `fall` has one.
abbrev pub filled_step : World → Home → Step → Step
filled_step w at (assign site x e) = assign site x e
filled_step w at (write site m i e) = write site m i e
filled_step w at (retag site x n) = retag site x n
filled_step w at (retag_cell site m j n) = retag_cell site m j n
filled_step w at (go_to site target) = go_to site target
filled_step w at (fall_to_child site hang) =
    fall_to_child site (table (root w) (touches w at (lone (fall_to_child site hang))))

-- The list of what a command in the body of a state touches.
abbrev pub filled_hang : World → Home → Command → List Bool
filled_hang w at c = table (root w) (touches w at c)

-- A command with the list of what each command in it touches.
abbrev pub filled : World → Home → Command → Command
filled w at c = mapped (filled_step w at) (filled_hang w at) c

-- The arms of a `case`, with the list of what each command in them touches.
abbrev pub filled_arms : World → Home → Arms → Arms
filled_arms w at arms = mapped_arms (filled_step w at) (filled_hang w at) arms

-- A block with the list of what each command in it touches.
abbrev pub filled_block : World → Home → Block → Block
filled_block w at b = mapped_block (filled_step w at) (filled_hang w at) b

-- A state with these lists in its body and in those of its descendants.
abbrev mutual
  pub filled_state : World → (parent : ℕ) → State → State
  filled_state w p (state_node s body children) =
      state_node s (filled_block w (record { state = s; parent = p; children = children }) body)
      (filled_group w s children)

  pub filled_group : World → (parent : ℕ) → Group → Group
  filled_group w p no_node = no_node
  filled_group w p (and_node t rest) = and_node (filled_state w p t) (filled_group w p rest)

-- `program_of` is the program of a design over the levels of a lattice.
abbrev pub program_of : Levels → DesignTree → Program
program_of ls d =
    let w = world_of ls d in
    let g = states_of ls d in
    record { world = w; states = filled_group w (root w) g; hang = table (root w) (root_touches w g) }
