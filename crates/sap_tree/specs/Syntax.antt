-- The tree of a design, without where its parts lie in memory. Each construct is one constructor. A `Spot` is the place
-- of an expression's first token, the parentheses around it included, and that of its own: the number, the name (for an
-- indexed memory its name), the operator, the `?`, the `[` of a slice, the `{` or the `zext`.
use Rattle.std.specs.Prelude.{ℕ, List}
use Rattle.sap_tree.specs.declared.name.Mention.{Mention}
use Rattle.sap_text.specs.declared.place.Place.{Place}
use Rattle.sap_tree.specs.declared.place.Spot.{Spot}
use Rattle.sap_tree.specs.declared.syntax.BinaryOperator.{BinaryOperator}
use Rattle.sap_tree.specs.declared.syntax.Decl.{Decl}
use Rattle.sap_tree.specs.declared.syntax.Kind.{Kind}
use Rattle.sap_tree.specs.declared.syntax.UnaryOperator.{UnaryOperator}
use Rattle.sap_tree.specs.declared.version.Version.{Version}

mutual
  -- The tree of an expression. Parentheses around it show only in the first place of its `Spot`.
  pub data Expression : Type 0 where
    literal : Spot → (value : ℕ) → Expression
    sized_literal : Spot → (width value : ℕ) → Expression
    variable : Spot → (name : List ℕ) → Expression
    cell_at : Spot → (memory : List ℕ) → (index : Expression) → Expression
    unary_of : Spot → UnaryOperator → Expression → Expression
    binary_of : Spot → BinaryOperator → Expression → Expression → Expression
    choice : Spot → (condition one other : Expression) → Expression
    slice : Spot → Expression → (high low : ℕ) → Expression
    concat : Spot → Expressions → Expression
    zero_extend : Spot → Expression → (width : ℕ) → Expression

  -- The parts of a concatenation, the highest bits first.
  pub data Expressions : Type 0 where
    no_part : Expressions
    and_part : Expression → Expressions → Expressions

-- the places are those of the words `tag`, `level` and `join`
mutual
  -- A tag expression: a level's name, the tag of an expression, the level at the place that an expression gives, or a
  -- join of several.
  pub data TagExpression : Type 0 where
    level_of : Mention → TagExpression
    tag_at : Place → Expression → TagExpression
    level_at : Place → Expression → TagExpression
    join_of : Place → TagExpressions → TagExpression

  -- The parts of a join of levels.
  pub data TagExpressions : Type 0 where
    no_tag : TagExpressions
    and_tag : TagExpression → TagExpressions → TagExpressions

-- Simple commands can have a handler. The places are those of the first words, and `assign` and `write` begin with
-- the name.
pub data SimpleCommand : Type 0 where
  assign : (register : Mention) → Expression → SimpleCommand
  write : (memory : Mention) → (index value : Expression) → SimpleCommand
  set_tag : Place → Mention → TagExpression → SimpleCommand
  set_cell_tag : Place → (memory : Mention) → (index : Expression) → TagExpression → SimpleCommand
  go_to : Place → (target : Mention) → SimpleCommand
  fall_to_child : Place → SimpleCommand

mutual
  -- A command: a step alone, a step with a handler for its refusal, `if`, a step with a block for each outcome, or
  -- `case`.
  pub data Command : Type 0 where
    lone : SimpleCommand → Command
    try : SimpleCommand → (otherwise : Place) → (handler : CommandBlock) → Command
    if_else : Place → (condition : Expression) → (yes : CommandBlock) → (no : ElseBlock) → Command
    try_then : SimpleCommand → (then : Place) → (accepted : CommandBlock) → (refused : CommandBlock) → Command
    case_of : Place → (number : Expression) → Arms → Command

  -- A block has commands, and the place of the token after them.
  pub data CommandBlock : Type 0 where
    command_block : CommandList → (after : Place) → CommandBlock

  -- The block after `else` may be missing.
  pub data ElseBlock : Type 0 where
    no_else : ElseBlock
    with_else : CommandBlock → ElseBlock

  -- The arms of a `case` have their constants each, and the block after `else` comes last.
  pub data Arms : Type 0 where
    last_arm : CommandBlock → Arms
    and_arm : (constants : Expressions) → CommandBlock → Arms → Arms

  -- A list of commands in the order in which they are written.
  pub data CommandList : Type 0 where
    no_command : CommandList
    and_command : Command → CommandList → CommandList

-- a state and its children; the place is that of the word `state`
mutual
  -- A state with its kind, its body and its children.
  pub data StateTree : Type 0 where
    state_node : Place → (name : Mention) → Kind → (body : CommandBlock) → (children : StateList) → StateTree

  -- A list of states in the order in which they are written.
  pub data StateList : Type 0 where
    no_state : StateList
    and_state : StateTree → StateList → StateList

-- A design has the version of the language, and its declarations and top-level states in the order of the text.
pub record DesignTree : Type 0 where
  pub version : Version
  pub declarations : List Decl
  pub states : StateList
