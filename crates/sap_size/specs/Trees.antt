-- How large designs are.
use Rattle.std.specs.Prelude.{ℕ, ◌+◌, length}
use Rattle.sap_tree.specs.Syntax.{Expression, Expressions, literal, sized_literal, variable, cell_at, unary_of, binary_of, choice, slice, concat, zero_extend, no_part, and_part, TagExpression, TagExpressions, level_of, tag_at, level_at, join_of, no_tag, and_tag, SimpleCommand, assign, write, set_tag, set_cell_tag, go_to, fall_to_child, Command, lone, try, if_else, try_then, case_of, Arms, last_arm, and_arm, CommandBlock, ElseBlock, CommandList, StateTree, StateList, DesignTree}
use Rattle.sap_tree.specs.Walks.{folded, folded_in_block, folded_in_else, folded_in_arms, folded_in_list, body_of, gathered_from, gathered_from_list}
use Rattle.sap_tree.specs.Whole.{states_count}

-- The nodes of expressions, tag expressions, commands and states. A command with its handler is one node beside the
-- nodes of the handler, and so is a command with its two blocks. A constant of a `case` is an expression.

-- The nodes of an expression, and of the parts of a concatenation.
abbrev mutual
  pub expression_nodes : Expression → ℕ
  expression_nodes (literal spot n) = 1
  expression_nodes (sized_literal spot w n) = 1
  expression_nodes (variable spot name) = 1
  expression_nodes (cell_at spot name index) = 1 + expression_nodes index
  expression_nodes (unary_of spot o x) = 1 + expression_nodes x
  expression_nodes (binary_of spot o x y) = 1 + expression_nodes x + expression_nodes y
  expression_nodes (choice spot x y z) = 1 + expression_nodes x + expression_nodes y + expression_nodes z
  expression_nodes (slice spot x high low) = 1 + expression_nodes x
  expression_nodes (concat spot parts) = 1 + part_nodes parts
  expression_nodes (zero_extend spot x w) = 1 + expression_nodes x

  pub part_nodes : Expressions → ℕ
  part_nodes no_part = 0
  part_nodes (and_part x parts) = expression_nodes x + part_nodes parts

-- The nodes of an expression of a level, and of the parts of a join.
abbrev mutual
  pub tag_nodes : TagExpression → ℕ
  tag_nodes (level_of name) = 1
  tag_nodes (tag_at place x) = 1 + expression_nodes x
  tag_nodes (level_at place x) = 1 + expression_nodes x
  tag_nodes (join_of place parts) = 1 + tag_part_nodes parts

  pub tag_part_nodes : TagExpressions → ℕ
  tag_part_nodes no_tag = 0
  tag_part_nodes (and_tag x parts) = tag_nodes x + tag_part_nodes parts

-- The nodes of the expressions and tag expressions of a simple command.
abbrev pub operand_nodes : SimpleCommand → ℕ
operand_nodes (assign register x) = expression_nodes x
operand_nodes (write memory index x) = expression_nodes index + expression_nodes x
operand_nodes (set_tag place name n) = tag_nodes n
operand_nodes (set_cell_tag place memory index n) = expression_nodes index + tag_nodes n
operand_nodes (go_to place target) = 0
operand_nodes (fall_to_child place) = 0

-- The nodes of the constants of the arms of a `case`.
abbrev pub constant_nodes : Arms → ℕ
constant_nodes (last_arm block) = 0
constant_nodes (and_arm constants block arms) = part_nodes constants + constant_nodes arms

-- The nodes of a command: itself, its expressions and tag expressions, and the `below` nodes of its blocks.
abbrev pub own_nodes : Command → (below : ℕ) → ℕ
own_nodes (lone c) below = 1 + operand_nodes c
own_nodes (try c place handler) below = 1 + operand_nodes c + below
own_nodes (if_else place x one other) below = 1 + expression_nodes x + below
own_nodes (try_then c place one other) below = 1 + operand_nodes c + below
own_nodes (case_of place x arms) below = 1 + expression_nodes x + constant_nodes arms + below

-- The nodes of a command.
abbrev pub command_nodes : Command → ℕ
command_nodes c = folded 0 ◌+◌ own_nodes c

-- The nodes of a block.
abbrev pub block_nodes : CommandBlock → ℕ
block_nodes block = folded_in_block 0 ◌+◌ own_nodes block

-- The nodes of an `else` part.
abbrev pub else_nodes : ElseBlock → ℕ
else_nodes other = folded_in_else 0 ◌+◌ own_nodes other

-- The nodes of the blocks of the arms of a `case`.
abbrev pub arms_nodes : Arms → ℕ
arms_nodes arms = folded_in_arms 0 ◌+◌ own_nodes arms

-- The nodes of a list of commands.
abbrev pub list_nodes : CommandList → ℕ
list_nodes list = folded_in_list 0 ◌+◌ own_nodes list

-- The nodes of a state and of all states below it.
abbrev pub state_nodes : StateTree → ℕ
state_nodes s = gathered_from 0 ◌+◌ (λ s. 1 + block_nodes (body_of s)) s

-- The nodes of a list of states and of all states below them.
abbrev pub states_nodes : StateList → ℕ
states_nodes states = gathered_from_list 0 ◌+◌ (λ s. 1 + block_nodes (body_of s)) states

-- The nodes of a design.
abbrev pub design_nodes : DesignTree → ℕ
design_nodes d = states_nodes d.states

-- How many inputs, registers, memories and states a design has.
abbrev pub entity_count : DesignTree → ℕ
entity_count d = length d.declarations + states_count d.states
