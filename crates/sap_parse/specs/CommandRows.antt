-- Rows of symbols in commands that functions of the reader take at once, and what stands between their stages.
use Rattle.std.specs.Prelude.{◌+◌, ℕ, List, [], ◌∷◌, Option, Some, None}
use Rattle.sap_parse.specs.Grammar as g
use Rattle.sap_parse.specs.Rows.{Between}
use Rattle.sap_parse.specs.Stages.{Stage, IsName, IsSign, IsWord, here, mention}
use Rattle.sap_parse.specs.Table as u
use Rattle.sap_parse.specs.Table.{Symbol}
use Rattle.sap_parse.specs.declared.command.Handling.TheVariants as e
use Rattle.sap_parse.specs.declared.command.Handling.{Handling}
use Rattle.sap_parse.specs.declared.role.Role.TheVariants as r
use Rattle.sap_lex.specs.declared.token.Sign.TheVariants as s
use Rattle.sap_text.specs.declared.place.Place.{Place}
use Rattle.sap_tree.specs.Syntax as t
use Rattle.sap_tree.specs.Trees.{block_of, expression_of, tag_of}
use Rattle.sap_tree.specs.declared.name.Mention.{Mention}
use Rattle.sap_tree.specs.declared.syntax.Block.{Block}
use Rattle.sap_tree.specs.declared.syntax.Expr.{Expr}
use Rattle.sap_tree.specs.declared.syntax.TagExpr.{TagExpr}
use Rattle.sap_tree.specs.declared.word.Word.TheVariants as w
use Rattle.sap_tree.specs.declared.word.Word.{Word}

-- What follows the name of a memory that is written.
pub data CellPart : Stage → Option Expr → Stage → Type 0 where
  no_cell : {p : Stage} → CellPart p None p
  cell : {p q : Stage} {i : Expr} → Between r.Plain s.OpenBracket r.Plain s.CloseBracket p (expression_of i) q
      → CellPart p (Some i) q

-- `:=` and an expression

-- The symbols of `:= EXPR`.
abbrev pub new_value_row : List Symbol
new_value_row = u.sign r.Plain s.Becomes ∷ u.expr ∷ []

-- The text between two stages is `:= EXPR`, with this expression.
pub data NewValue : Stage → t.Expression → Stage → Type 0 where
  new_value : {p1 p2 q : Stage} {x : t.Expression} → IsSign p1 r.Plain s.Becomes p2 → g.Expr p2 x q → NewValue p1 x q

-- `setTag`, `(` and a name, with the places

-- The symbols of `setTag ( NAME`.
abbrev pub tag_place_row : ℕ → List Symbol
tag_place_row depth = u.word (r.Command depth) w.SetTag ∷ u.sign r.Plain s.OpenParen ∷ u.any_name r.Plain ∷ []

-- The text between two stages is `setTag ( NAME`, with these places and this name.
pub data TagPlace (depth : ℕ) : Stage → Place → Mention → Stage → Type 0 where
  tag_place : {p1 p2 p3 q : Stage} {name : List ℕ} → IsWord p1 (r.Command depth) w.SetTag p2
      → IsSign p2 r.Plain s.OpenParen p3 → IsName p3 r.Plain name q
      → TagPlace depth p1 (here p1) (mention p3 name) q

-- `,`, a tag expression and `)`

-- The symbols of `, TEXPR )`.
abbrev pub new_tag_row : List Symbol
new_tag_row = u.sign r.Plain s.Comma ∷ u.texpr ∷ u.sign r.Plain s.CloseParen ∷ []

-- The text between two stages is `, TEXPR )`, with this tag expression.
pub data NewTag : Stage → t.TagExpression → Stage → Type 0 where
  new_tag : {p1 p2 p3 q : Stage} {x : t.TagExpression} → IsSign p1 r.Plain s.Comma p2 → g.Texpr p2 x p3
      → IsSign p3 r.Plain s.CloseParen q → NewTag p1 x q

-- the commands of these parts

-- The step that assigns a register, or writes the cell of a memory if there is an index.
abbrev pub assigned : Mention → Option Expr → Expr → t.SimpleCommand
assigned n (Some i) x = t.write n (expression_of i) (expression_of x)
assigned n None x = t.assign n (expression_of x)

-- The step that retags an entity, or the cell of a memory if there is an index.
abbrev pub tag_set : Place → Mention → Option Expr → TagExpr → t.SimpleCommand
tag_set place n (Some i) x = t.set_cell_tag place n (expression_of i) (tag_of x)
tag_set place n None x = t.set_tag place n (tag_of x)

-- the constants of an arm, and `:`

-- The symbols of the constants of an arm, up to its colon.
abbrev pub constants_row : List Symbol
constants_row = u.constant ∷ u.constants ∷ u.sign r.Plain s.Colon ∷ []

-- The text between two stages is the constants of an arm, with its colon.
pub data ArmHead : Stage → t.Expressions → Stage → Type 0 where
  arm_head : {p1 p2 p3 q : Stage} {x : t.Expression} {xs : t.Expressions} → g.Constant p1 x p2
      → g.Constants p2 xs p3 → IsSign p3 r.Plain s.Colon q
      → ArmHead p1 (t.and_part x xs) q

-- the arms of a `case` in braces, with the block after `else`

-- The symbols of the arms of a `case`, with their braces.
abbrev pub arms_row : ℕ → List Symbol
arms_row depth = u.sign r.Plain s.OpenBrace ∷ u.arm depth ∷ u.arms depth ∷ u.sign r.Plain s.CloseBrace ∷ []

-- The text between two stages is the arms of a `case`, with their braces.
pub data ArmsBetween (depth : ℕ) : Stage → t.Arms → Stage → Type 0 where
  arms_between : {p1 p2 p3 p4 q : Stage} {constants : t.Expressions} {block : t.CommandBlock} {arms : t.Arms}
      → IsSign p1 r.Plain s.OpenBrace p2 → g.Arm depth p2 constants block p3 → g.Arms depth p3 arms p4
      → IsSign p4 r.Plain s.CloseBrace q
      → ArmsBetween depth p1 (t.and_arm constants block arms) q

-- a word, and a block one deeper

-- The symbols of a keyword and the block after it.
abbrev pub behind_row : Word → ℕ → List Symbol
behind_row word depth = u.word r.Plain word ∷ u.block (depth + 1) ∷ []

-- The text between two stages is a keyword and a block after it.
pub data Behind (word : Word) (depth : ℕ) : Stage → t.CommandBlock → Stage → Type 0 where
  behind : {p1 p2 q : Stage} {block : t.CommandBlock} → IsWord p1 r.Plain word p2
      → g.Block (depth + 1) p2 block q → Behind word depth p1 block q

-- What follows a command that can have a handler, with the places.
pub data Ends (depth : ℕ) : Stage → Handling → Stage → Type 0 where
  plain : {p q : Stage} → IsSign p r.Plain s.Semicolon q → Ends depth p e.Plain q
  handled : {p q : Stage} {handler : Block} → Behind w.Otherwise depth p (block_of handler) q
      → Ends depth p (e.Handled (here p) handler) q
  decided : {p1 p2 q : Stage} {accepted refused : Block} → Behind w.Then depth p1 (block_of accepted) p2
      → Behind w.Otherwise depth p2 (block_of refused) q
      → Ends depth p1 (e.Decided (here p1) accepted refused) q

-- The command with what follows it.
abbrev pub ended : t.SimpleCommand → Handling → t.Command
ended c e.Plain = t.lone c
ended c (e.Handled place handler) = t.try c place (block_of handler)
ended c (e.Decided place accepted refused) = t.try_then c place (block_of accepted) (block_of refused)
