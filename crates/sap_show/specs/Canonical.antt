-- The canonical text of a design: in the second version the line `sapper 2;`, then a declaration a line, then the
-- states. A line of a state or a block stands two spaces further in than that of what holds it. Each construct is one
-- clause.
use Rattle.std.specs.Prelude.{ℕ, ◌+◌, List, [], ◌++◌, Option, Some, None, if◌then◌else◌, nat_lt, codes, decimal, flat_map}
use Rattle.sap_tree.specs.Precedence.{precedence, unary_precedence, slice_precedence, precedence_of}
use Rattle.sap_tree.specs.Syntax.{Expression, Expressions, literal, sized_literal, variable, cell_at, unary_of, binary_of, choice, slice, concat, zero_extend, no_part, and_part, TagExpression, TagExpressions, level_of, tag_at, level_at, join_of, no_tag, and_tag, SimpleCommand, assign, write, set_tag, set_cell_tag, go_to, fall_to_child, Command, lone, try, if_else, try_then, case_of, Arms, last_arm, and_arm, CommandBlock, command_block, ElseBlock, no_else, with_else, CommandList, no_command, and_command, StateTree, state_node, StateList, no_state, and_state, DesignTree}
use Rattle.sap_tree.specs.declared.syntax.BinaryOperator.TheVariants as b
use Rattle.sap_tree.specs.declared.syntax.BinaryOperator.{BinaryOperator}
use Rattle.sap_tree.specs.declared.syntax.Decl.TheVariants as d
use Rattle.sap_tree.specs.declared.syntax.Decl.{Decl}
use Rattle.sap_tree.specs.declared.syntax.Kind.TheVariants as k
use Rattle.sap_tree.specs.declared.syntax.Kind.{Kind}
use Rattle.sap_tree.specs.declared.syntax.Numeral.{Numeral}
use Rattle.sap_tree.specs.declared.syntax.UnaryOperator.TheVariants as u
use Rattle.sap_tree.specs.declared.syntax.UnaryOperator.{UnaryOperator}
use Rattle.sap_tree.specs.declared.syntax.Under.{Under}
use Rattle.sap_tree.specs.declared.version.Version.TheVariants as v
use Rattle.sap_tree.specs.declared.version.Version.{Version}

-- operators: those with two operands have a space on each side

-- How an operator of one operand is written.
abbrev pub unary_text : UnaryOperator → List ℕ
unary_text u.Not = codes "~"
unary_text u.Neg = codes "-"
unary_text u.AllOnes = codes "&"
unary_text u.AnyOne = codes "|"
unary_text u.Odd = codes "^"

-- How an operator of two operands is written, with a space on each side.
abbrev pub binary_text : BinaryOperator → List ℕ
binary_text b.Or = codes " | "
binary_text b.Xor = codes " ^ "
binary_text b.And = codes " & "
binary_text b.Eq = codes " == "
binary_text b.Ne = codes " != "
binary_text b.Lt = codes " < "
binary_text b.Le = codes " <= "
binary_text b.Shl = codes " << "
binary_text b.Shr = codes " >> "
binary_text b.Add = codes " + "
binary_text b.Sub = codes " - "
binary_text b.Mul = codes " * "

-- expressions

-- An operand of this text, in parentheses exactly where it binds looser than its place asks for.
unfoldable pub operand_text : ℕ → Expression → List ℕ → List ℕ
operand_text asked x text = if nat_lt (precedence_of x) asked then codes "(" ++ (text ++ codes ")") else text

-- `[high:low]`.
abbrev pub bounds_text : ℕ → ℕ → List ℕ
bounds_text high low = codes "[" ++ (decimal high ++ (codes ":" ++ (decimal low ++ codes "]")))

unfoldable mutual
  pub expression_text : Expression → List ℕ
  expression_text (literal spot n) = decimal n
  expression_text (sized_literal spot w n) = decimal w ++ (codes "'d" ++ decimal n)
  expression_text (variable spot name) = name
  expression_text (cell_at spot name index) = name ++ (codes "[" ++ (expression_text index ++ codes "]"))
  expression_text (unary_of spot o x) = unary_text o ++ operand_text unary_precedence x (expression_text x)
  expression_text (binary_of spot o x y) =
      operand_text (precedence o) x (expression_text x)
      ++ (binary_text o ++ operand_text (precedence o + 1) y (expression_text y))
  expression_text (choice spot x y z) = operand_text 1 x (expression_text x)
      ++ (codes " ? " ++ (expression_text y ++ (codes " : " ++ expression_text z)))
  expression_text (slice spot x high low) = operand_text slice_precedence x (expression_text x) ++ bounds_text high low
  expression_text (concat spot parts) = codes "{" ++ (parts_text parts ++ codes "}")
  expression_text (zero_extend spot x w) =
      codes "zext(" ++ (expression_text x ++ (codes ", " ++ (decimal w ++ codes ")")))

  -- With commas between them.
  pub parts_text : Expressions → List ℕ
  parts_text no_part = []
  parts_text (and_part x parts) = expression_text x ++ more_parts_text parts

  pub more_parts_text : Expressions → List ℕ
  more_parts_text no_part = []
  more_parts_text (and_part x parts) = codes ", " ++ (expression_text x ++ more_parts_text parts)

unfoldable mutual
  pub tag_text : TagExpression → List ℕ
  tag_text (level_of level) = level.name
  tag_text (tag_at place x) = codes "tag(" ++ (expression_text x ++ codes ")")
  tag_text (level_at place x) = codes "level(" ++ (expression_text x ++ codes ")")
  tag_text (join_of place parts) = codes "join(" ++ (tags_text parts ++ codes ")")

  -- With commas between them.
  pub tags_text : TagExpressions → List ℕ
  tags_text no_tag = []
  tags_text (and_tag x parts) = tag_text x ++ more_tags_text parts

  pub more_tags_text : TagExpressions → List ℕ
  more_tags_text no_tag = []
  more_tags_text (and_tag x parts) = codes ", " ++ (tag_text x ++ more_tags_text parts)

-- commands; the margin is the spaces at the front of their lines

-- How a cell is written.
unfoldable pub cell_text : List ℕ → Expression → List ℕ
cell_text memory index = memory ++ (codes "[" ++ (expression_text index ++ codes "]"))

-- How a step is written.
unfoldable pub simple_text : SimpleCommand → List ℕ
simple_text (assign register x) = register.name ++ (codes " := " ++ expression_text x)
simple_text (write memory index x) = cell_text memory.name index ++ (codes " := " ++ expression_text x)
simple_text (set_tag place name n) = codes "setTag(" ++ (name.name ++ (codes ", " ++ (tag_text n ++ codes ")")))
simple_text (set_cell_tag place memory index n) =
    codes "setTag(" ++ (cell_text memory.name index ++ (codes ", " ++ (tag_text n ++ codes ")")))
simple_text (go_to place target) = codes "goto " ++ target.name
simple_text (fall_to_child place) = codes "fall"

unfoldable mutual
  pub command_text : List ℕ → Command → List ℕ
  command_text margin (lone c) = margin ++ (simple_text c ++ codes ";\n")
  command_text margin (try c place handler) =
      margin ++ (simple_text c ++ (codes " otherwise" ++ (block_text margin handler ++ codes "\n")))
  command_text margin (if_else place x one other) =
      margin ++ (codes "if (" ++ (expression_text x
      ++ (codes ")" ++ (block_text margin one ++ (else_text margin other ++ codes "\n")))))
  command_text margin (try_then c place accepted refused) =
      margin ++ (simple_text c ++ (codes " then"
      ++ (block_text margin accepted ++ (codes " otherwise" ++ (block_text margin refused ++ codes "\n")))))
  command_text margin (case_of place x arms) =
      margin ++ (codes "case (" ++ (expression_text x
      ++ (codes ") {\n" ++ (arms_text (margin ++ codes "  ") arms ++ (margin ++ codes "}\n")))))

  -- An arm and the last block begin a line each.
  pub arms_text : List ℕ → Arms → List ℕ
  arms_text margin (last_arm block) = margin ++ (codes "else" ++ (block_text margin block ++ codes "\n"))
  arms_text margin (and_arm constants block arms) =
      margin ++ (parts_text constants ++ (codes ":"
      ++ (block_text margin block ++ (codes "\n" ++ arms_text margin arms))))

  -- From the space before its `{` up to its `}`.
  pub block_text : List ℕ → CommandBlock → List ℕ
  block_text margin (command_block list after) =
      codes " {\n" ++ (commands_text (margin ++ codes "  ") list ++ (margin ++ codes "}"))

  pub else_text : List ℕ → ElseBlock → List ℕ
  else_text margin no_else = []
  else_text margin (with_else block) = codes " else" ++ block_text margin block

  pub commands_text : List ℕ → CommandList → List ℕ
  commands_text margin no_command = []
  commands_text margin (and_command c list) = command_text margin c ++ commands_text margin list

-- declarations

-- How the authority of an enforced thing is written: `under LEVEL`, or nothing.
abbrev pub authority_text : Option Under → List ℕ
authority_text None = []
authority_text (Some under) = codes " under " ++ under.level.name

-- How a kind is written: `dynamic`, or `enforced LEVEL` and its authority.
abbrev pub kind_text : Kind → List ℕ
kind_text (k.Dynamic place) = codes "dynamic"
kind_text (k.Enforced level authority) = codes "enforced " ++ (level.name ++ authority_text authority)

-- How a start number is written: `= N`, or nothing.
abbrev pub start_text : Option Numeral → List ℕ
start_text None = []
start_text (Some n) = codes " = " ++ decimal n.value

-- The line of a declaration.
unfoldable pub declaration_text : Decl → List ℕ
declaration_text (d.Input place name width) =
    codes "input " ++ (name.name ++ (codes " : " ++ (decimal width.value ++ codes ";\n")))
declaration_text (d.Register place name width kind start) =
    codes "reg " ++ (name.name ++ (codes " : "
    ++ (decimal width.value ++ (codes " " ++ (kind_text kind ++ (start_text start ++ codes ";\n"))))))
declaration_text (d.Memory place name width depth kind) =
    codes "mem "
    ++ (name.name ++ (codes " : " ++ (decimal width.value
    ++ (codes "[" ++ (decimal depth.value ++ (codes "] " ++ (kind_text kind ++ codes ";\n")))))))

-- states

-- `state NAME KIND {`.
unfoldable pub head_text : List ℕ → Kind → List ℕ
head_text name kind = codes "state " ++ (name ++ (codes " " ++ (kind_text kind ++ codes " {\n")))

-- The commands of a body.
abbrev pub body_text : List ℕ → CommandBlock → List ℕ
body_text margin (command_block list after) = commands_text margin list

unfoldable mutual
  pub state_text : List ℕ → StateTree → List ℕ
  state_text margin (state_node place name kind body children) =
      margin
      ++ (head_text name.name kind ++ (body_text (margin ++ codes "  ") body
      ++ (states_text (margin ++ codes "  ") children ++ (margin ++ codes "}\n"))))

  pub states_text : List ℕ → StateList → List ℕ
  states_text margin no_state = []
  states_text margin (and_state s states) = state_text margin s ++ states_text margin states

-- The first line of a design of version 2; a design of version 1 has none.
abbrev pub version_text : Version → List ℕ
version_text v.One = []
version_text v.Two = codes "sapper 2;\n"

-- The canonical text of a design: its version, its declarations and its states.
unfoldable pub canonical_text : DesignTree → List ℕ
canonical_text design = version_text design.version
    ++ (flat_map declaration_text design.declarations ++ states_text [] design.states)
