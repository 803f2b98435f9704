-- What the design grammar and its limits ask of a tree.
use Rattle.std.specs.Prelude.{ℕ, ◌+◌, ◌^◌, max, nat_lt, nat_le, Bool, true, false, ◌&&◌, Option, Some, None}
use Rattle.std.specs.List.{list_all, count_by}
use Rattle.sap_tree.specs.Extent.{fits, tag_fits}
use Rattle.sap_tree.specs.Limits.{most_inputs, most_registers, most_memories, most_states, most_nesting, most_commands, most_blocks, most_arms}
use Rattle.sap_tree.specs.Syntax.{Expression, Expressions, literal, sized_literal, variable, cell_at, unary_of, binary_of, choice, slice, concat, zero_extend, no_part, and_part, TagExpression, TagExpressions, level_of, tag_at, level_at, join_of, no_tag, and_tag, SimpleCommand, assign, write, set_tag, set_cell_tag, go_to, fall_to_child, Command, lone, try, if_else, try_then, case_of, Arms, last_arm, and_arm, CommandBlock, command_block, ElseBlock, no_else, with_else, CommandList, no_command, and_command, StateTree, state_node, StateList, no_state, and_state, DesignTree}
use Rattle.sap_tree.specs.Walks.{folded, folded_in_block, folded_in_else, folded_in_arms, folded_in_list, body_of, folded_from, folded_from_list, gathered_from, gathered_from_list}
use Rattle.sap_tree.specs.Words.{is_name, is_second}
use Rattle.sap_tree.specs.declared.syntax.Decl.TheVariants as d
use Rattle.sap_tree.specs.declared.syntax.Decl.{Decl}
use Rattle.sap_tree.specs.declared.syntax.Kind.TheVariants as k
use Rattle.sap_tree.specs.declared.syntax.Kind.{Kind}
use Rattle.sap_tree.specs.declared.syntax.Numeral.{Numeral}
use Rattle.sap_tree.specs.declared.syntax.Under.{Under}
use Rattle.sap_tree.specs.declared.version.Version.{Version}

-- numbers are below 2^64

-- A number of a text is below 2^64.
abbrev pub is_number : ℕ → Bool
is_number n = nat_lt n (2 ^ 64)

-- expressions: each name is a name, each number a number, and a concatenation has two or more parts

-- A concatenation has at least two parts.
abbrev pub has_two_parts : Expressions → Bool
has_two_parts (and_part x (and_part y parts)) = true
has_two_parts parts = false

-- An expression is one of the grammar in this version: names are names, numbers are below 2^64, and a concatenation has
-- two parts or more.
unfoldable mutual
  pub is_expression : Version → Expression → Bool
  is_expression version (literal spot n) = is_number n
  is_expression version (sized_literal spot w n) = is_number w && is_number n
  is_expression version (variable spot name) = is_name version name
  is_expression version (cell_at spot name index) = is_name version name && is_expression version index
  is_expression version (unary_of spot o x) = is_expression version x
  is_expression version (binary_of spot o x y) = is_expression version x && is_expression version y
  is_expression version (choice spot x y z) =
      is_expression version x && is_expression version y && is_expression version z
  is_expression version (slice spot x high low) = is_expression version x && is_number high && is_number low
  is_expression version (concat spot parts) = has_two_parts parts && are_expressions version parts
  is_expression version (zero_extend spot x w) = is_expression version x && is_number w

  pub are_expressions : Version → Expressions → Bool
  are_expressions version no_part = true
  are_expressions version (and_part x parts) = is_expression version x && are_expressions version parts

-- A join has at least two operands.
abbrev pub has_two_tags : TagExpressions → Bool
has_two_tags (and_tag x (and_tag y parts)) = true
has_two_tags parts = false

-- A tag expression is one of the grammar in this version, and a join in it has two operands or more.
unfoldable mutual
  pub is_tag : Version → TagExpression → Bool
  is_tag version (level_of level) = is_name version level.name
  is_tag version (tag_at place x) = is_expression version x
  is_tag version (level_at place x) = is_expression version x
  is_tag version (join_of place parts) = has_two_tags parts && are_tags version parts

  pub are_tags : Version → TagExpressions → Bool
  are_tags version no_tag = true
  are_tags version (and_tag x parts) = is_tag version x && are_tags version parts

-- commands: each expression in them that stands in no other is short enough

-- An expression that is part of no other is one of the grammar and keeps to its limits.
abbrev pub is_outermost : Version → Expression → Bool
is_outermost version x = is_expression version x && fits x

-- A tag expression that is part of no other is one of the grammar and keeps to its limits.
abbrev pub is_outermost_tag : Version → TagExpression → Bool
is_outermost_tag version x = is_tag version x && tag_fits x

-- A step is one of the grammar in this version: its names and its expressions are.
unfoldable pub is_simple : Version → SimpleCommand → Bool
is_simple version (assign register x) = is_name version register.name && is_outermost version x
is_simple version (write memory index x) =
    is_name version memory.name && is_outermost version index && is_outermost version x
is_simple version (set_tag place name n) = is_name version name.name && is_outermost_tag version n
is_simple version (set_cell_tag place memory index n) =
    is_name version memory.name && is_outermost version index && is_outermost_tag version n
is_simple version (go_to place target) = is_name version target.name
is_simple version (fall_to_child place) = true

-- a `case` has an arm, and an arm has a constant: a number with or without a width

-- A constant of an arm is a number, with or without a width.
abbrev pub is_constant : Expression → Bool
is_constant (literal spot n) = is_number n
is_constant (sized_literal spot w n) = is_number w && is_number n
is_constant x = false

-- Each of these expressions is a constant.
abbrev pub are_constants : Expressions → Bool
are_constants no_part = true
are_constants (and_part x parts) = is_constant x && are_constants parts

-- An arm has at least one constant.
abbrev pub has_constant : Expressions → Bool
has_constant no_part = false
has_constant (and_part x parts) = true

-- The number of arms before the `else` of a `case`.
abbrev pub arm_count : Arms → ℕ
arm_count (last_arm block) = 0
arm_count (and_arm constants block arms) = 1 + arm_count arms

-- A `case` has at least one arm before its `else`.
abbrev pub has_arm : Arms → Bool
has_arm (last_arm block) = false
has_arm (and_arm constants block arms) = true

-- `then` and `case` stand in designs of the second version alone.
unfoldable mutual
  pub is_command : Version → Command → Bool
  is_command version (lone c) = is_simple version c
  is_command version (try c place handler) = is_simple version c && is_block version handler
  is_command version (if_else place x one other) =
      is_outermost version x && is_block version one && is_else version other
  is_command version (try_then c place one other) =
      is_second version && is_simple version c && is_block version one && is_block version other
  is_command version (case_of place x arms) =
      is_second version && is_outermost version x && has_arm arms && nat_le (arm_count arms) most_arms
      && are_arms version arms

  pub is_block : Version → CommandBlock → Bool
  is_block version (command_block list after) = are_commands version list

  pub is_else : Version → ElseBlock → Bool
  is_else version no_else = true
  is_else version (with_else block) = is_block version block

  pub are_arms : Version → Arms → Bool
  are_arms version (last_arm block) = is_block version block
  are_arms version (and_arm constants block arms) =
      has_constant constants && are_constants constants && is_block version block && are_arms version arms

  pub are_commands : Version → CommandList → Bool
  are_commands version no_command = true
  are_commands version (and_command c list) = is_command version c && are_commands version list

-- One more than what stands below.
abbrev pub one_more : {A : Type 0} → A → (below : ℕ) → ℕ
one_more part below = 1 + below

-- how many commands there are, those in blocks counted

-- The number of commands in a command, itself included.
unfoldable pub command_count : Command → ℕ
command_count c = folded 0 ◌+◌ one_more c

-- The number of commands in a block.
unfoldable pub block_count : CommandBlock → ℕ
block_count block = folded_in_block 0 ◌+◌ one_more block

-- The number of commands in an `else`.
unfoldable pub else_count : ElseBlock → ℕ
else_count other = folded_in_else 0 ◌+◌ one_more other

-- The number of commands in the arms of a `case`.
unfoldable pub arms_count : Arms → ℕ
arms_count arms = folded_in_arms 0 ◌+◌ one_more arms

-- The number of commands in a list.
unfoldable pub list_count : CommandList → ℕ
list_count list = folded_in_list 0 ◌+◌ one_more list

-- the depth of the deepest command: 1 for a command in no block, and one more for those in its blocks

-- How many blocks are nested in a command, itself included.
unfoldable pub command_depth : Command → ℕ
command_depth c = folded 0 max one_more c

-- How many commands are nested in a block.
unfoldable pub block_depth : CommandBlock → ℕ
block_depth block = folded_in_block 0 max one_more block

-- How many commands are nested in an `else`.
unfoldable pub else_depth : ElseBlock → ℕ
else_depth other = folded_in_else 0 max one_more other

-- How many commands are nested in the arms of a `case`.
unfoldable pub arms_depth : Arms → ℕ
arms_depth arms = folded_in_arms 0 max one_more arms

-- How many commands are nested in a list.
unfoldable pub list_depth : CommandList → ℕ
list_depth list = folded_in_list 0 max one_more list

-- kinds and declarations

-- The authority of an enforced entity, if it is written, has a name of this version.
abbrev pub is_authority : Version → Option Under → Bool
is_authority version None = true
is_authority version (Some under) = is_name version under.level.name

-- The names of a kind are names of this version.
abbrev pub is_kind : Version → Kind → Bool
is_kind version (k.Dynamic place) = true
is_kind version (k.Enforced level authority) = is_name version level.name && is_authority version authority

-- A start number, if it is written, is below 2^64.
abbrev pub is_start : Option Numeral → Bool
is_start None = true
is_start (Some n) = is_number n.value

-- A declaration is one of the grammar in this version: its names are, and its numbers are below 2^64.
abbrev pub is_declaration : Version → Decl → Bool
is_declaration version (d.Input place name width) = is_name version name.name && is_number width.value
is_declaration version (d.Register place name width kind start) =
    is_name version name.name && is_number width.value && is_kind version kind && is_start start
is_declaration version (d.Memory place name width depth kind) =
    is_name version name.name && is_number width.value && is_number depth.value && is_kind version kind

-- This declares an input.
abbrev pub is_input : Decl → Bool
is_input (d.Input place name width) = true
is_input declaration = false

-- This declares a register.
abbrev pub is_register : Decl → Bool
is_register (d.Register place name width kind start) = true
is_register declaration = false

-- This declares a memory.
abbrev pub is_memory : Decl → Bool
is_memory (d.Memory place name width depth kind) = true
is_memory declaration = false

-- states

-- A state is one of the grammar in this version, with its body and its children, and its body keeps to the limit on
-- nesting.
unfoldable mutual
  pub is_state : Version → StateTree → Bool
  is_state version (state_node place name kind body children) =
      is_name version name.name && is_kind version kind && is_block version body
      && nat_le (block_depth body) most_blocks && are_states version children

  pub are_states : Version → StateList → Bool
  are_states version no_state = true
  are_states version (and_state s states) = is_state version s && are_states version states

-- The number of states in a state, itself included.
unfoldable pub state_count : StateTree → ℕ
state_count s = folded_from 0 ◌+◌ one_more s

-- The number of these states and of their descendants.
unfoldable pub states_count : StateList → ℕ
states_count states = folded_from_list 0 ◌+◌ one_more states

-- The depth of a state: 1 without children, and one more for each level of children.
unfoldable pub state_depth : StateTree → ℕ
state_depth s = folded_from 0 max one_more s

-- How many states are nested in these, themselves included.
unfoldable pub states_depth : StateList → ℕ
states_depth states = folded_from_list 0 max one_more states

-- The commands of all bodies.
unfoldable pub state_commands : StateTree → ℕ
state_commands s = gathered_from 0 ◌+◌ (λ s. block_count (body_of s)) s

-- The number of commands in the bodies of these states and of their descendants.
unfoldable pub states_commands : StateList → ℕ
states_commands states = gathered_from_list 0 ◌+◌ (λ s. block_count (body_of s)) states

-- designs

-- There is at least one state.
abbrev pub has_state : StateList → Bool
has_state no_state = false
has_state (and_state s states) = true

-- A tree that some text of the grammar has, whose parts are within their limits.
abbrev pub is_tree : DesignTree → Bool
is_tree design = list_all (is_declaration design.version) design.declarations && has_state design.states
    && are_states design.version design.states

-- The limits on the whole.
abbrev pub is_within_limits : DesignTree → Bool
is_within_limits design =
    nat_le (count_by is_input design.declarations) most_inputs
    && nat_le (count_by is_register design.declarations) most_registers
    && nat_le (count_by is_memory design.declarations) most_memories
    && nat_le (states_count design.states) most_states
    && nat_le (states_depth design.states) most_nesting
    && nat_le (states_commands design.states) most_commands

-- A tree is that of a text: the grammar makes it, and it keeps to all limits.
unfoldable pub is_whole : DesignTree → Bool
is_whole design = is_tree design && is_within_limits design
