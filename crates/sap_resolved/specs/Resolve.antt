-- The commands and states of a design with numbers for names. Each check site has its number, from 1 in the order of
-- the text: it is one more than the length of the walk's list up to it (`sap_shape`, `Sites`). Another command has 0
-- in that place. What hangs where is filled in afterwards.
use Rattle.std.specs.Prelude.{ℕ, ◌+◌, List, [], ◌∷◌, length, Some, None as NoWidth, if◌then◌else◌}
use Rattle.sap_tree.specs.Syntax.{Expression, Expressions, literal, sized_literal, no_part, and_part, SimpleCommand, assign, write, set_tag, set_cell_tag, CommandBlock, command_block, ElseBlock, no_else, with_else, CommandList, no_command, and_command, StateTree, state_node, StateList, no_state, and_state, DesignTree}
use Rattle.sap_tree.specs.Syntax as tree
use Rattle.sap_tree.specs.Touches.{home_of}
use Rattle.sap_names.specs.Entities.{what_is, entities_of}
use Rattle.sap_names.specs.declared.entity.Entity.{Entity}
use Rattle.sap_names.specs.Widths.{register_width, cell_width, index_width}
use Rattle.sap_meaning.specs.Program.{Step, assign, retag, retag_cell, go_to, fall_to_child, Command, lone, try, if_else, try_then, case_of, Arms, last_arm, and_arm, Block, end_block, command_then, State, state_node, Group, no_node, and_node}
use Rattle.sap_meaning.specs.Program as program
use Rattle.sap_shape.specs.Sites.{is_site, Surroundings, simple_sites, command_sites, block_sites, state_sites}
use Rattle.sap_lattice.specs.Levels.{Levels}
use Rattle.sap_resolved.specs.Worlds.{states_in}
use Rattle.sap_resolved.specs.Terms.{entity_number, term_of, level_term}

-- `site_number` is the number of the site that a command is, if the next site has the number `k`; 0 if it is none.
abbrev pub site_number : Surroundings → ℕ → SimpleCommand → ℕ
site_number h k c = if is_site h.entities h.home.kind h.home.children c then k else 0

-- The step of a program that a step of the tree is, with its site's number.
abbrev pub step_of : Levels → Surroundings → (site : ℕ) → SimpleCommand → Step
step_of ls h n (assign target e) =
    assign n (entity_number h.entities target.name)
    (term_of h.entities e (register_width (what_is h.entities target.name)))
step_of ls h n (write target index e) =
    program.write n (entity_number h.entities target.name)
    (term_of h.entities index (index_width (what_is h.entities target.name)))
    (term_of h.entities e (cell_width (what_is h.entities target.name)))
step_of ls h n (set_tag place target tag) =
    retag n (entity_number h.entities target.name) (level_term ls h.entities tag)
step_of ls h n (set_cell_tag place target index tag) =
    retag_cell n (entity_number h.entities target.name)
    (term_of h.entities index (index_width (what_is h.entities target.name))) (level_term ls h.entities tag)
step_of ls h n (tree.go_to place target) = go_to n (entity_number h.entities target.name)
step_of ls h n (tree.fall_to_child place) = fall_to_child n []

-- The number of a constant, with or without a width; 0 for any other expression.
abbrev pub number_of : Expression → ℕ
number_of (literal spot n) = n
number_of (sized_literal spot width n) = n
number_of e = 0

-- The numbers of the constants of an arm.
abbrev pub numbers_of : Expressions → List ℕ
numbers_of no_part = []
numbers_of (and_part e parts) = number_of e ∷ numbers_of parts

-- In a part the next check site has the number `k`, and those behind it the numbers after `k`.
abbrev mutual
  pub command_of : Levels → Surroundings → (k : ℕ) → tree.Command → Command
  command_of ls h k (tree.lone c) = lone (step_of ls h (site_number h k c) c)
  command_of ls h k (tree.try c place handler) =
      try (step_of ls h (site_number h k c) c) [] (block_of ls h (k + length (simple_sites h c)) handler)
  command_of ls h k (tree.if_else place condition then_block else_block) =
      if_else [] (term_of h.entities condition (Some 1)) (block_of ls h k then_block)
      (else_of ls h (k + length (block_sites h then_block)) else_block)
  command_of ls h k (tree.try_then c place accepted refused) =
      try_then (step_of ls h (site_number h k c) c) [] (block_of ls h (k + length (simple_sites h c)) accepted)
      (block_of ls h (k + length (simple_sites h c) + length (block_sites h accepted)) refused)
  command_of ls h k (tree.case_of place e arms) = case_of [] (term_of h.entities e NoWidth) (arms_of ls h k arms)

  pub block_of : Levels → Surroundings → (k : ℕ) → CommandBlock → Block
  block_of ls h k (command_block cs after) = list_of ls h k cs

  -- `a` missing `else` is an empty one.
  pub else_of : Levels → Surroundings → (k : ℕ) → ElseBlock → Block
  else_of ls h k no_else = end_block
  else_of ls h k (with_else b) = block_of ls h k b

  pub arms_of : Levels → Surroundings → (k : ℕ) → tree.Arms → Arms
  arms_of ls h k (tree.last_arm b) = last_arm (block_of ls h k b)
  arms_of ls h k (tree.and_arm constants b arms) =
      and_arm (numbers_of constants) (block_of ls h k b) (arms_of ls h (k + length (block_sites h b)) arms)

  pub list_of : Levels → Surroundings → (k : ℕ) → CommandList → Block
  list_of ls h k no_command = end_block
  list_of ls h k (and_command c cs) = command_then (command_of ls h k c)
      (list_of ls h (k + length (command_sites h c)) cs)

-- In a state whose number is `x` the next check site has the number `k`.
abbrev mutual
  pub state_of : Levels → List Entity → (k x : ℕ) → StateTree → State
  state_of ls es k x (state_node place name kind body children) =
      let h : Surroundings = record { entities = es; home = home_of (state_node place name kind body children) } in
      state_node x (block_of ls h k body) (group_of ls es (k + length (block_sites h body)) (x + 1) children)

  pub group_of : Levels → List Entity → (k x : ℕ) → StateList → Group
  group_of ls es k x no_state = no_node
  group_of ls es k x (and_state s rest) = and_node (state_of ls es k x s)
      (group_of ls es (k + length (state_sites es s)) (x + states_in s) rest)

-- `states_of` are the states of a design.
abbrev pub states_of : Levels → DesignTree → Group
states_of ls d = group_of ls (entities_of d) 1 (length d.declarations) d.states
