-- Trees, places aside: all places are one.
use Rattle.std.specs.Prelude.{Option, Some, None, map}
use Rattle.sap_tree.specs.Syntax.{Expression, Expressions, literal, sized_literal, variable, cell_at, unary_of, binary_of, choice, slice, concat, zero_extend, no_part, and_part, TagExpression, TagExpressions, level_of, tag_at, level_at, join_of, no_tag, and_tag, SimpleCommand, assign, write, set_tag, set_cell_tag, go_to, fall_to_child, Command, lone, try, if_else, try_then, case_of, Arms, last_arm, and_arm, CommandBlock, command_block, ElseBlock, no_else, with_else, CommandList, no_command, and_command, StateTree, state_node, StateList, no_state, and_state, DesignTree}
use Rattle.sap_tree.specs.declared.name.Mention.{Mention}
use Rattle.sap_text.specs.declared.place.Place.{Place}
use Rattle.sap_tree.specs.declared.place.Spot.{Spot}
use Rattle.sap_tree.specs.declared.syntax.Decl.TheVariants as d
use Rattle.sap_tree.specs.declared.syntax.Decl.{Decl}
use Rattle.sap_tree.specs.declared.syntax.Kind.TheVariants as k
use Rattle.sap_tree.specs.declared.syntax.Kind.{Kind}
use Rattle.sap_tree.specs.declared.syntax.Numeral.{Numeral}
use Rattle.sap_tree.specs.declared.syntax.Under.{Under}

-- The one place that every token has once places are left out.
abbrev pub nowhere : Place
nowhere = record { line = 1; column = 1 }

-- The two places of an expression once places are left out.
abbrev pub no_spot : Spot
no_spot = record { first = nowhere; at = nowhere }

-- A mentioned name without its place.
abbrev pub bare_name : Mention → Mention
bare_name m = record { place = nowhere; name = m.name }

-- A number of the text without its place.
abbrev pub bare_number : Numeral → Numeral
bare_number n = record { place = nowhere; value = n.value }

-- An expression without places.
unfoldable mutual
  pub bare_expression : Expression → Expression
  bare_expression (literal spot n) = literal no_spot n
  bare_expression (sized_literal spot w n) = sized_literal no_spot w n
  bare_expression (variable spot name) = variable no_spot name
  bare_expression (cell_at spot name index) = cell_at no_spot name (bare_expression index)
  bare_expression (unary_of spot o x) = unary_of no_spot o (bare_expression x)
  bare_expression (binary_of spot o x y) = binary_of no_spot o (bare_expression x) (bare_expression y)
  bare_expression (choice spot x y z) = choice no_spot (bare_expression x) (bare_expression y) (bare_expression z)
  bare_expression (slice spot x high low) = slice no_spot (bare_expression x) high low
  bare_expression (concat spot parts) = concat no_spot (bare_expressions parts)
  bare_expression (zero_extend spot x w) = zero_extend no_spot (bare_expression x) w

  pub bare_expressions : Expressions → Expressions
  bare_expressions no_part = no_part
  bare_expressions (and_part x parts) = and_part (bare_expression x) (bare_expressions parts)

-- A tag expression without places.
unfoldable mutual
  pub bare_tag : TagExpression → TagExpression
  bare_tag (level_of level) = level_of (bare_name level)
  bare_tag (tag_at place x) = tag_at nowhere (bare_expression x)
  bare_tag (level_at place x) = level_at nowhere (bare_expression x)
  bare_tag (join_of place parts) = join_of nowhere (bare_tags parts)

  pub bare_tags : TagExpressions → TagExpressions
  bare_tags no_tag = no_tag
  bare_tags (and_tag x parts) = and_tag (bare_tag x) (bare_tags parts)

-- A step without places.
unfoldable pub bare_simple : SimpleCommand → SimpleCommand
bare_simple (assign register x) = assign (bare_name register) (bare_expression x)
bare_simple (write memory index x) = write (bare_name memory) (bare_expression index) (bare_expression x)
bare_simple (set_tag place name n) = set_tag nowhere (bare_name name) (bare_tag n)
bare_simple (set_cell_tag place memory index n) =
    set_cell_tag nowhere (bare_name memory) (bare_expression index) (bare_tag n)
bare_simple (go_to place target) = go_to nowhere (bare_name target)
bare_simple (fall_to_child place) = fall_to_child nowhere

-- A command without places.
unfoldable mutual
  pub bare_command : Command → Command
  bare_command (lone c) = lone (bare_simple c)
  bare_command (try c place handler) = try (bare_simple c) nowhere (bare_block handler)
  bare_command (if_else place x one other) = if_else nowhere (bare_expression x) (bare_block one) (bare_else other)
  bare_command (try_then c place one other) = try_then (bare_simple c) nowhere (bare_block one) (bare_block other)
  bare_command (case_of place x arms) = case_of nowhere (bare_expression x) (bare_arms arms)

  pub bare_block : CommandBlock → CommandBlock
  bare_block (command_block list after) = command_block (bare_list list) nowhere

  pub bare_else : ElseBlock → ElseBlock
  bare_else no_else = no_else
  bare_else (with_else block) = with_else (bare_block block)

  pub bare_arms : Arms → Arms
  bare_arms (last_arm block) = last_arm (bare_block block)
  bare_arms (and_arm constants block arms) = and_arm (bare_expressions constants) (bare_block block) (bare_arms arms)

  pub bare_list : CommandList → CommandList
  bare_list no_command = no_command
  bare_list (and_command c list) = and_command (bare_command c) (bare_list list)

-- The authority of an enforced entity without places.
abbrev pub bare_authority : Option Under → Option Under
bare_authority None = None
bare_authority (Some under) = Some record { place = nowhere; level = bare_name under.level }

-- A kind, enforced or dynamic, without places.
abbrev pub bare_kind : Kind → Kind
bare_kind (k.Dynamic place) = k.Dynamic nowhere
bare_kind (k.Enforced level authority) = k.Enforced (bare_name level) (bare_authority authority)

-- A start number without its place.
abbrev pub bare_start : Option Numeral → Option Numeral
bare_start None = None
bare_start (Some n) = Some (bare_number n)

-- A declaration without places.
abbrev pub bare_declaration : Decl → Decl
bare_declaration (d.Input place name width) = d.Input nowhere (bare_name name) (bare_number width)
bare_declaration (d.Register place name width kind start) =
    d.Register nowhere (bare_name name) (bare_number width) (bare_kind kind) (bare_start start)
bare_declaration (d.Memory place name width depth kind) =
    d.Memory nowhere (bare_name name) (bare_number width) (bare_number depth) (bare_kind kind)

-- A state without places.
unfoldable mutual
  pub bare_state : StateTree → StateTree
  bare_state (state_node place name kind body children) =
      state_node nowhere (bare_name name) (bare_kind kind) (bare_block body) (bare_states children)

  pub bare_states : StateList → StateList
  bare_states no_state = no_state
  bare_states (and_state s states) = and_state (bare_state s) (bare_states states)

-- The tree of a design without places: two texts that differ only in layout have the same.
unfoldable pub bare : DesignTree → DesignTree
bare design = record {
  version = design.version;
  declarations = map bare_declaration design.declarations;
  states = bare_states design.states;
}
