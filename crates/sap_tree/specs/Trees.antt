-- The tree of each part of a design.
use Rattle.std.specs.Prelude.{List, [], ◌∷◌, Option, Some, None}
use Rattle.sap_tree.specs.declared.syntax.Arm.{Arm}
use Rattle.sap_tree.specs.declared.syntax.Block.{Block}
use Rattle.sap_tree.specs.declared.syntax.Cmd.{Cmd, Row_of-Cmd, end_of-Cmd, more_of-Cmd, Row_of-Arm, end_of-Arm, more_of-Arm, Held-Cmd-If-3}
use Rattle.sap_tree.specs.declared.syntax.Cmd.TheVariants as c
use Rattle.sap_tree.specs.declared.syntax.Cmd.{None', Some'}
use Rattle.sap_tree.specs.declared.syntax.Expr.{Expr, Row_of-Expr, end_of-Expr, more_of-Expr}
use Rattle.sap_tree.specs.declared.syntax.Expr.TheVariants as e
use Rattle.sap_tree.specs.declared.syntax.Simple.{Simple}
use Rattle.sap_tree.specs.declared.syntax.Simple.TheVariants as s
use Rattle.sap_tree.specs.declared.syntax.State.{State, State', Row_of-State, end_of-State, more_of-State}
use Rattle.sap_tree.specs.declared.syntax.TagExpr.{TagExpr, Row_of-TagExpr, end_of-TagExpr, more_of-TagExpr}
use Rattle.sap_tree.specs.declared.syntax.TagExpr.TheVariants as t
use Rattle.sap_tree.specs.Syntax

-- The tree of an expression.
unfoldable mutual
  pub expression_of : Expr → Syntax.Expression
  expression_of (e.Number spot n) = Syntax.literal spot n
  expression_of (e.Sized spot w n) = Syntax.sized_literal spot w n
  expression_of (e.Read spot name) = Syntax.variable spot name
  expression_of (e.Cell' spot name p index) = Syntax.cell_at spot name (expression_of index)
  expression_of (e.Unary' spot o p x) = Syntax.unary_of spot o (expression_of x)
  expression_of (e.Binary' spot o p x q y) = Syntax.binary_of spot o (expression_of x) (expression_of y)
  expression_of (e.Choose' spot p x q y r z) = Syntax.choice spot (expression_of x) (expression_of y) (expression_of z)
  expression_of (e.Slice' spot p x high low) = Syntax.slice spot (expression_of x) high low
  expression_of (e.Concat' spot shape row) = Syntax.concat spot (expression_row_of row)
  expression_of (e.Zext' spot p x w) = Syntax.zero_extend spot (expression_of x) w

  pub expression_row_of : {n : _} → Row_of-Expr n → Syntax.Expressions
  expression_row_of end_of-Expr = Syntax.no_part
  expression_row_of (more_of-Expr x rest) = Syntax.and_part (expression_of x) (expression_row_of rest)

-- The trees of these expressions, in order.
abbrev pub expressions_of : List Expr → Syntax.Expressions
expressions_of [] = Syntax.no_part
expressions_of (x ∷ xs) = Syntax.and_part (expression_of x) (expressions_of xs)

-- The tree of a tag expression.
unfoldable mutual
  pub tag_of : TagExpr → Syntax.TagExpression
  tag_of (t.Level name) = Syntax.level_of name
  tag_of (t.TagOf place x) = Syntax.tag_at place (expression_of x)
  tag_of (t.LevelAt place x) = Syntax.level_at place (expression_of x)
  tag_of (t.Join' place shape row) = Syntax.join_of place (tag_row_of row)

  pub tag_row_of : {n : _} → Row_of-TagExpr n → Syntax.TagExpressions
  tag_row_of end_of-TagExpr = Syntax.no_tag
  tag_row_of (more_of-TagExpr x rest) = Syntax.and_tag (tag_of x) (tag_row_of rest)

-- The trees of these tag expressions, in order.
abbrev pub tags_of : List TagExpr → Syntax.TagExpressions
tags_of [] = Syntax.no_tag
tags_of (x ∷ xs) = Syntax.and_tag (tag_of x) (tags_of xs)

-- The tree of a step.
abbrev pub simple_of : Simple → Syntax.SimpleCommand
simple_of (s.Assign name x) = Syntax.assign name (expression_of x)
simple_of (s.Write name i x) = Syntax.write name (expression_of i) (expression_of x)
simple_of (s.SetTag place name n) = Syntax.set_tag place name (tag_of n)
simple_of (s.SetCellTag place name i n) = Syntax.set_cell_tag place name (expression_of i) (tag_of n)
simple_of (s.Goto place target) = Syntax.go_to place target
simple_of (s.Fall place) = Syntax.fall_to_child place

-- The tree of a command.
unfoldable mutual
  pub command_of : Cmd → Syntax.Command
  command_of (c.Do k) = Syntax.lone (simple_of k)
  command_of (c.Try' k place shape row after) =
      Syntax.try (simple_of k) place (Syntax.command_block (command_row_of row) after)
  command_of (c.If' place x shape row after other) =
      Syntax.if_else place (expression_of x) (Syntax.command_block (command_row_of row) after) (held_of other)
  command_of (c.TryThen' k place shape row after other_shape other_row other_after) =
      Syntax.try_then (simple_of k) place (Syntax.command_block (command_row_of row) after)
      (Syntax.command_block (command_row_of other_row) other_after)
  command_of (c.Case' place x shape arms last_shape row after) =
      Syntax.case_of place (expression_of x) (arm_row_of arms (Syntax.command_block (command_row_of row) after))

  pub held_of : Held-Cmd-If-3 → Syntax.ElseBlock
  held_of None' = Syntax.no_else
  held_of (Some' shape row after) = Syntax.with_else (Syntax.command_block (command_row_of row) after)

  -- Arms with the block after `else`.
  pub arm_row_of : {n : _} → Row_of-Arm n → Syntax.CommandBlock → Syntax.Arms
  arm_row_of end_of-Arm last = Syntax.last_arm last
  arm_row_of (more_of-Arm constants shape row after rest) last =
      Syntax.and_arm (expressions_of constants.items) (Syntax.command_block (command_row_of row) after)
      (arm_row_of rest last)

  pub command_row_of : {n : _} → Row_of-Cmd n → Syntax.CommandList
  command_row_of end_of-Cmd = Syntax.no_command
  command_row_of (more_of-Cmd x rest) = Syntax.and_command (command_of x) (command_row_of rest)

-- The trees of these commands, in order.
abbrev pub commands_of : List Cmd → Syntax.CommandList
commands_of [] = Syntax.no_command
commands_of (x ∷ xs) = Syntax.and_command (command_of x) (commands_of xs)

-- The tree of a block.
abbrev pub block_of : Block → Syntax.CommandBlock
block_of b = Syntax.command_block (commands_of b.commands.items) b.after

-- the constants of an arm, and its block

-- The trees of the constants of an arm.
abbrev pub constants_of : Arm → Syntax.Expressions
constants_of arm = expressions_of arm.constants.items

-- The tree of the block of an arm.
abbrev pub arm_block_of : Arm → Syntax.CommandBlock
arm_block_of arm = block_of arm.block

-- Arms in front of others.
abbrev pub arms_before : List Arm → Syntax.Arms → Syntax.Arms
arms_before [] others = others
arms_before (arm ∷ arms) others = Syntax.and_arm (constants_of arm) (arm_block_of arm) (arms_before arms others)

-- Arms, and the block after `else`.
abbrev pub arms_of : List Arm → Syntax.CommandBlock → Syntax.Arms
arms_of arms last = arms_before arms (Syntax.last_arm last)

-- The tree of an `else`, if there is one.
abbrev pub else_of : Option Block → Syntax.ElseBlock
else_of None = Syntax.no_else
else_of (Some b) = Syntax.with_else (block_of b)

-- The tree of a state, with its children.
unfoldable mutual
  pub state_of : State → Syntax.StateTree
  state_of (State' place name kind body shape row) =
      Syntax.state_node place name kind (block_of body) (state_row_of row)

  pub state_row_of : {n : _} → Row_of-State n → Syntax.StateList
  state_row_of end_of-State = Syntax.no_state
  state_row_of (more_of-State x rest) = Syntax.and_state (state_of x) (state_row_of rest)

-- The trees of these states, in order.
abbrev pub states_of : List State → Syntax.StateList
states_of [] = Syntax.no_state
states_of (x ∷ xs) = Syntax.and_state (state_of x) (states_of xs)
