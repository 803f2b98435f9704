-- The tree of each variant, as code makes and takes it.
use Rattle.std.proofs.Common.{◌≡◌, refl, ap, sym, ◌∙◌, Global}
use Rattle.std.specs.Prelude.{Vec, Option, Some, None}
use Rattle.std.specs.Global.{Box}
use Rattle.sap_tree.specs.declared.name.Mention.{Mention}
use Rattle.sap_text.specs.declared.place.Place.{Place}
use Rattle.sap_tree.specs.declared.place.Spot.{Spot}
use Rattle.sap_tree.specs.declared.syntax.Arm.{Arm}
use Rattle.sap_tree.specs.declared.syntax.Block.{Block}
use Rattle.sap_tree.specs.declared.syntax.Cmd.{Cmd, Row_of-Cmd, end_of-Cmd, more_of-Cmd, items-the_row-Cmd, items_hidden-the_row-Cmd-0, items_shown-the_row-Cmd-0, Row_of-Arm, end_of-Arm, more_of-Arm, items-the_row-Arm, items_hidden-the_row-Arm-1}
use Rattle.sap_tree.specs.declared.syntax.Cmd.TheBlock.{hidden-the_row-Cmd-0, hidden-the_row-Arm-1, shown-the_row-Cmd-0, back-Cmd-If-3}
use Rattle.sap_tree.specs.declared.syntax.Cmd.TheVariants as c
use Rattle.sap_tree.specs.declared.syntax.Expr.{Expr, Row_of-Expr, end_of-Expr, more_of-Expr, items-the_row-Expr, items_hidden-the_row-Expr-0}
use Rattle.sap_tree.specs.declared.syntax.Expr.TheBlock.{hidden-the_row-Expr-0}
use Rattle.sap_tree.specs.declared.syntax.Expr.TheVariants as e
use Rattle.sap_tree.specs.declared.syntax.Simple.{Simple}
use Rattle.sap_tree.specs.declared.syntax.State.{State, State', Row_of-State, end_of-State, more_of-State, items-the_row-State, items_shown-the_row-State-0, out-State, roll-State, out-roll-State, State-F}
use Rattle.sap_tree.specs.declared.syntax.State.TheBlock.{shown-the_row-State-0}
use Rattle.sap_tree.specs.declared.syntax.TagExpr.{TagExpr, Row_of-TagExpr, end_of-TagExpr, more_of-TagExpr, items-the_row-TagExpr, items_hidden-the_row-TagExpr-0}
use Rattle.sap_tree.specs.declared.syntax.TagExpr.TheBlock.{hidden-the_row-TagExpr-0}
use Rattle.sap_tree.specs.declared.syntax.TagExpr.TheVariants as t
use Rattle.sap_tree.specs.Syntax
use Rattle.sap_tree.specs.Trees.{expression_of, expression_row_of, expressions_of, tag_of, tag_row_of, tags_of, simple_of, command_of, held_of, arm_row_of, command_row_of, commands_of, block_of, arms_of, else_of, state_of, state_row_of, states_of}
use denote.Hole.Carrier.{out}

-- rows and lists

expression_row_of-items : {n : _} (row : Row_of-Expr n) → expression_row_of row ≡ expressions_of (items-the_row-Expr n row)
unfolding expression_row_of
expression_row_of-items end_of-Expr = refl
expression_row_of-items (more_of-Expr x rest) = ap (λ xs. Syntax.and_part (expression_of x) xs) (expression_row_of-items rest)

tag_row_of-items : {n : _} (row : Row_of-TagExpr n) → tag_row_of row ≡ tags_of (items-the_row-TagExpr n row)
unfolding tag_row_of
tag_row_of-items end_of-TagExpr = refl
tag_row_of-items (more_of-TagExpr x rest) = ap (λ xs. Syntax.and_tag (tag_of x) xs) (tag_row_of-items rest)

command_row_of-items : {n : _} (row : Row_of-Cmd n) → command_row_of row ≡ commands_of (items-the_row-Cmd n row)
unfolding command_row_of
command_row_of-items end_of-Cmd = refl
command_row_of-items (more_of-Cmd x rest) = ap (λ xs. Syntax.and_command (command_of x) xs) (command_row_of-items rest)

command_row_of-shown : (shape : _) (row : Row_of-Cmd _) → command_row_of row ≡ commands_of (shown-the_row-Cmd-0 shape row).items
command_row_of-shown shape row = command_row_of-items row ∙ ap commands_of (sym (items_shown-the_row-Cmd-0 shape row))

command_row_of-vec : (v : Vec Cmd Global) → command_row_of (hidden-the_row-Cmd-0 v) ≡ commands_of v.items
command_row_of-vec v = command_row_of-items (hidden-the_row-Cmd-0 v) ∙ ap commands_of (items_hidden-the_row-Cmd-0 v)

arm_row_of-items : {n : _} (row : Row_of-Arm n) (last : Syntax.CommandBlock) → arm_row_of row last ≡ arms_of (items-the_row-Arm n row) last
unfolding arm_row_of
arm_row_of-items end_of-Arm last = refl
arm_row_of-items (more_of-Arm constants shape row after rest) last =
    ap (λ xs. Syntax.and_arm (expressions_of constants.items) (Syntax.command_block xs after) (arm_row_of rest last)) (command_row_of-shown shape row)
    ∙ ap (λ arms. Syntax.and_arm (expressions_of constants.items)
    (Syntax.command_block (commands_of (shown-the_row-Cmd-0 shape row).items) after) arms) (arm_row_of-items rest last)

state_row_of-items : {n : _} (row : Row_of-State n) → state_row_of row ≡ states_of (items-the_row-State n row)
unfolding state_row_of
state_row_of-items end_of-State = refl
state_row_of-items (more_of-State x rest) = ap (λ xs. Syntax.and_state (state_of x) xs) (state_row_of-items rest)

-- expressions

pub expression_of-number : (spot : Spot) (n : _) → expression_of (e.Number spot n) ≡ Syntax.literal spot n
unfolding expression_of
expression_of-number spot n = refl

pub expression_of-sized : (spot : Spot) (w n : _) → expression_of (e.Sized spot w n) ≡ Syntax.sized_literal spot w n
unfolding expression_of
expression_of-sized spot w n = refl

pub expression_of-read : (spot : Spot) (name : _) → expression_of (e.Read spot name) ≡ Syntax.variable spot name
unfolding expression_of
expression_of-read spot name = refl

pub expression_of-cell : (spot : Spot) (name : _) (index : Box Expr) → expression_of (e.Cell spot name index) ≡ Syntax.cell_at spot name (expression_of index.value)
unfolding expression_of
expression_of-cell spot name index = refl

pub expression_of-unary : (spot : Spot) (o : _) (x : Box Expr) → expression_of (e.Unary spot o x) ≡ Syntax.unary_of spot o (expression_of x.value)
unfolding expression_of
expression_of-unary spot o x = refl

pub expression_of-binary : (spot : Spot) (o : _) (x y : Box Expr)
    → expression_of (e.Binary spot o x y) ≡ Syntax.binary_of spot o (expression_of x.value) (expression_of y.value)
unfolding expression_of
expression_of-binary spot o x y = refl

pub expression_of-choose : (spot : Spot) (x y z : Box Expr)
    → expression_of (e.Choose spot x y z) ≡ Syntax.choice spot (expression_of x.value) (expression_of y.value) (expression_of z.value)
unfolding expression_of
expression_of-choose spot x y z = refl

pub expression_of-slice : (spot : Spot) (x : Box Expr) (high low : _) → expression_of (e.Slice spot x high low) ≡ Syntax.slice spot (expression_of x.value) high low
unfolding expression_of
expression_of-slice spot x high low = refl

pub expression_of-concat : (spot : Spot) (parts : Vec Expr Global) → expression_of (e.Concat spot parts) ≡ Syntax.concat spot (expressions_of parts.items)
unfolding expression_of
expression_of-concat spot parts =
    ap (λ xs. Syntax.concat spot xs) (expression_row_of-items (hidden-the_row-Expr-0 parts) ∙ ap expressions_of (items_hidden-the_row-Expr-0 parts))

pub expression_of-zext : (spot : Spot) (x : Box Expr) (w : _) → expression_of (e.Zext spot x w) ≡ Syntax.zero_extend spot (expression_of x.value) w
unfolding expression_of
expression_of-zext spot x w = refl

-- tag expressions

pub tag_of-level : (name : Mention) → tag_of (t.Level name) ≡ Syntax.level_of name
unfolding tag_of
tag_of-level name = refl

pub tag_of-tag : (place : Place) (x : Expr) → tag_of (t.TagOf place x) ≡ Syntax.tag_at place (expression_of x)
unfolding tag_of
tag_of-tag place x = refl

pub tag_of-level_at : (place : Place) (x : Expr) → tag_of (t.LevelAt place x) ≡ Syntax.level_at place (expression_of x)
unfolding tag_of
tag_of-level_at place x = refl

pub tag_of-join : (place : Place) (parts : Vec TagExpr Global) → tag_of (t.Join place parts) ≡ Syntax.join_of place (tags_of parts.items)
unfolding tag_of
tag_of-join place parts =
    ap (λ xs. Syntax.join_of place xs) (tag_row_of-items (hidden-the_row-TagExpr-0 parts) ∙ ap tags_of (items_hidden-the_row-TagExpr-0 parts))

-- commands

pub command_of-do : (k : Simple) → command_of (c.Do k) ≡ Syntax.lone (simple_of k)
unfolding command_of
command_of-do k = refl

pub command_of-try : (k : Simple) (place : Place) (handler : Block) → command_of (c.Try k place handler) ≡ Syntax.try (simple_of k) place (block_of handler)
unfolding command_of
command_of-try k place handler = ap (λ xs. Syntax.try (simple_of k) place (Syntax.command_block xs handler.after)) (command_row_of-vec handler.commands)

held_of-option : (other : Option Block) → held_of (back-Cmd-If-3 other) ≡ else_of other
unfolding held_of
held_of-option None = refl
held_of-option (Some b) = ap (λ xs. Syntax.with_else (Syntax.command_block xs b.after)) (command_row_of-vec b.commands)

pub command_of-if : (place : Place) (x : Expr) (one : Block) (other : Option Block)
    → command_of (c.If place x one other) ≡ Syntax.if_else place (expression_of x) (block_of one) (else_of other)
unfolding command_of
command_of-if place x one other =
    ap (λ xs. Syntax.if_else place (expression_of x) (Syntax.command_block xs one.after) (held_of (back-Cmd-If-3 other))) (command_row_of-vec one.commands)
    ∙ ap (λ o. Syntax.if_else place (expression_of x) (block_of one) o) (held_of-option other)

pub command_of-try_then : (k : Simple) (place : Place) (a b : Block)
    → command_of (c.TryThen k place a b) ≡ Syntax.try_then (simple_of k) place (block_of a) (block_of b)
unfolding command_of
command_of-try_then k place a b =
    ap (λ xs. Syntax.try_then (simple_of k) place (Syntax.command_block xs a.after)
    (Syntax.command_block (command_row_of (hidden-the_row-Cmd-0 b.commands)) b.after)) (command_row_of-vec a.commands)
    ∙ ap (λ xs. Syntax.try_then (simple_of k) place (block_of a) (Syntax.command_block xs b.after)) (command_row_of-vec b.commands)

pub command_of-case : (place : Place) (x : Expr) (arms : Vec Arm Global) (last : Block)
    → command_of (c.Case place x arms last) ≡ Syntax.case_of place (expression_of x) (arms_of arms.items (block_of last))
unfolding command_of
command_of-case place x arms last =
    ap (λ xs. Syntax.case_of place (expression_of x) (arm_row_of (hidden-the_row-Arm-1 arms) (Syntax.command_block xs last.after))) (command_row_of-vec last.commands)
    ∙ ap (λ o. Syntax.case_of place (expression_of x) o) (arm_row_of-items (hidden-the_row-Arm-1 arms) (block_of last))
    ∙ ap (λ o. Syntax.case_of place (expression_of x) (arms_of o (block_of last))) (items_hidden-the_row-Arm-1 arms)

-- states

pub state_of-out : (x : State)
    → state_of x ≡ Syntax.state_node (out-State x).place (out-State x).name (out-State x).kind (block_of (out-State x).body) (states_of (out-State x).children.items)
unfolding state_of out-State shown-the_row-State-0 out
state_of-out (State' place name kind body shape row) =
    ap (λ xs. Syntax.state_node place name kind (block_of body) xs) (state_row_of-items row ∙ ap states_of (sym (items_shown-the_row-State-0 shape row)))

pub state_of-roll : (x : State-F State)
    → state_of (roll-State x) ≡ Syntax.state_node x.place x.name x.kind (block_of x.body) (states_of x.children.items)
state_of-roll x =
    state_of-out (roll-State x)
    ∙ ap (λ (y : State-F State). Syntax.state_node y.place y.name y.kind (block_of y.body) (states_of y.children.items)) (out-roll-State x)

pub ruleset views = (
  expression_of-number,
  expression_of-sized,
  expression_of-read,
  expression_of-cell,
  expression_of-unary,
  expression_of-binary,
  expression_of-choose,
  expression_of-slice,
  expression_of-concat,
  expression_of-zext,
  tag_of-level,
  tag_of-tag,
  tag_of-level_at,
  tag_of-join,
  command_of-do,
  command_of-try,
  command_of-if,
  command_of-try_then,
  command_of-case,
  state_of-out,
  state_of-roll,
)
