-- Trees of commands, from the equations that the reader's functions have.
use Rattle.std.proofs.Common.{◌≡◌, ◌+◌, ℕ, List, [], ◌∷◌, ◌++◌, Option, refl, sym, ap, subst, ◌∙◌}
use Rattle.sap_parse.specs.Grammar as g
use Rattle.sap_parse.specs.CommandRows.{ArmHead, ArmsBetween, Behind, CellPart, Ends, NewTag, NewValue, TagPlace, arm_head, arms_between, assigned, behind, cell, decided, ended, handled, new_tag, new_value, no_cell, plain, tag_place, tag_set}
use Rattle.sap_parse.specs.Joining.{CollectsArms, CollectsConstants, join, join_commands}
use Rattle.sap_parse.specs.Rows.{Asked, asked, between}
use Rattle.sap_parse.specs.Stages.{Stage, IsName, IsNumber, IsSign, IsSized, IsWord, here, mention}
use Rattle.sap_parse.specs.declared.command.Handling.TheVariants as e
use Rattle.sap_parse.specs.declared.command.Handling.{Handling}
use Rattle.sap_parse.specs.declared.role.Role.TheVariants as r
use Rattle.sap_lex.specs.declared.token.Sign.TheVariants as s
use Rattle.sap_tree.specs.declared.word.Word.TheVariants as w
use Rattle.sap_tree.specs.Syntax as t
use Rattle.sap_tree.specs.Trees.{arm_block_of, arms_before, arms_of, block_of, command_of, commands_of, constants_of, expression_of, expressions_of, tag_of}
use Rattle.sap_tree.specs.declared.name.Mention.{Mention}
use Rattle.sap_tree.specs.declared.place.Spot.{Spot}
use Rattle.sap_tree.specs.declared.syntax.Arm.{Arm}
use Rattle.sap_tree.specs.declared.syntax.Block.{Block}
use Rattle.sap_tree.specs.declared.syntax.Cmd.{Cmd}
use Rattle.sap_tree.specs.declared.syntax.Expr.{Expr}
use Rattle.sap_tree.specs.declared.syntax.TagExpr.{TagExpr}
use Rattle.sap_text.specs.declared.place.Place.{Place}
use Rattle.sap_parse.proofs.Makes.{both}

pub assign_tree : {depth : ℕ} {p1 p2 p3 q : Stage} {n : Mention} {index : Option Expr} (x : Expr) → IsName p1 (r.Command depth) n.name p2
    → CellPart p2 index p3 → NewValue p3 (expression_of x) q
    → n ≡ mention p1 n.name → g.Simple depth p1 (assigned n index x) q
assign_tree {depth = depth} {p1 = p1} {q = q} x a no_cell (new_value b c) at = subst (λ n. g.Simple depth p1 (t.assign n (expression_of x)) q) (sym at) (g.assign a b c)
assign_tree {depth = depth} {p1 = p1} {q = q} x a (cell {i = i} (between b c d)) (new_value e f) at =
    subst (λ n. g.Simple depth p1 (t.write n (expression_of i) (expression_of x)) q) (sym at) (g.write a b c d e f)

pub set_tag_tree : {depth : ℕ} {p1 p2 p3 q : Stage} {place : Place} {n : Mention} {index : Option Expr} (x : TagExpr)
    → TagPlace depth p1 place n p2 → CellPart p2 index p3 → NewTag p3 (tag_of x) q
    → g.Simple depth p1 (tag_set place n index x) q
set_tag_tree x (tag_place a b c) no_cell (new_tag d e f) = g.set_tag a b c d e f
set_tag_tree x (tag_place a b c) (cell (between d e f)) (new_tag h k l) = g.set_cell_tag a b c d e f h k l

pub tag_place_tree : {depth : ℕ} {p1 p2 p3 q : Stage} {place : Place} {n : Mention} → IsWord p1 (r.Command depth) w.SetTag p2
    → IsSign p2 r.Plain s.OpenParen p3 → IsName p3 r.Plain n.name q
    → place ≡ here p1 → n ≡ mention p3 n.name → TagPlace depth p1 place n q
tag_place_tree {depth = depth} {p1 = p1} {p3 = p3} {q = q} {n = n} a b c at there =
    subst (λ place. TagPlace depth p1 place n q) (sym at) (subst (λ m. TagPlace depth p1 (here p1) m q) (sym there) (tag_place a b c))

pub goto_tree : {depth : ℕ} {p1 p2 q : Stage} {n : Mention} {place : Place} → IsWord p1 (r.Command depth) w.Goto p2
    → IsName p2 r.Plain n.name q → place ≡ here p1 → n ≡ mention p2 n.name
    → g.Simple depth p1 (t.go_to place n) q
goto_tree {depth = depth} {p1 = p1} {p2 = p2} {q = q} {n = n} a b at there =
    subst (λ place. g.Simple depth p1 (t.go_to place n) q) (sym at) (subst (λ m. g.Simple depth p1 (t.go_to (here p1) m) q) (sym there) (g.goto a b))

pub fall_tree : {depth : ℕ} {p q : Stage} {place : Place} → IsWord p (r.Command depth) w.Fall q → place ≡ here p → g.Simple depth p (t.fall_to_child place) q
fall_tree {depth = depth} {p = p} {q = q} a at = subst (λ place. g.Simple depth p (t.fall_to_child place) q) (sym at) (g.fall a)

pub ended_tree : {depth : ℕ} {p1 p2 q : Stage} {c : t.SimpleCommand} {ending : Handling} → g.Simple depth p1 c p2 → Ends depth p2 ending q → g.Cmd depth p1 (ended c ending) q
ended_tree a (plain b) = g.unhandled a b
ended_tree a (handled (behind b d)) = g.handled a b d
ended_tree a (decided (behind b d) (behind e f)) = g.decided a b d e f

pub branch_tree : {depth : ℕ} {p1 p2 p3 q : Stage} {e e' : t.Expression} {one : t.CommandBlock} {other : t.ElseBlock} {place : Place} {x : t.Command}
    → Asked (r.Command depth) w.If r.Plain r.Plain p1 e p2 → g.Block (depth + 1) p2 one p3 → g.Else (depth + 1) p3 other q → place ≡ here p1
    → e' ≡ e → x ≡ t.if_else place e' one other → g.Cmd depth p1 x q
branch_tree {depth = depth} {p1 = p1} {q = q} {e' = e'} {one = one} {other = other} (asked a (between b c d)) f h at same made =
    subst (λ x. g.Cmd depth p1 x q) (sym (made ∙ ap (λ place. t.if_else place e' one other) at ∙ ap (λ e. t.if_else (here p1) e one other) same)) (g.branch a b c d f h)

pub handled_tree : {depth : ℕ} {p q : Stage} {place : Place} {handler : Block} → Behind w.Otherwise depth p (block_of handler) q
    → place ≡ here p → Ends depth p (e.Handled place handler) q
handled_tree {depth = depth} {p = p} {q = q} {handler = handler} a at = subst (λ place. Ends depth p (e.Handled place handler) q) (sym at) (handled a)

pub decided_tree : {depth : ℕ} {p1 p2 q : Stage} {place : Place} {accepted refused : Block} → Behind w.Then depth p1 (block_of accepted) p2
    → Behind w.Otherwise depth p2 (block_of refused) q → place ≡ here p1
    → Ends depth p1 (e.Decided place accepted refused) q
decided_tree {depth = depth} {p1 = p1} {q = q} {accepted = accepted} {refused = refused} a b at =
    subst (λ place. Ends depth p1 (e.Decided place accepted refused) q) (sym at) (decided a b)

pub plain_constant_tree : {p q : Stage} {n : ℕ} {place : Place} {spot : Spot} {x : t.Expression} → IsNumber p r.Plain n q → place ≡ here p
    → spot ≡ both place → x ≡ t.literal spot n → g.Constant p x q
plain_constant_tree {p = p} {q = q} {n = n} is at same made = subst (λ x. g.Constant p x q) (sym (made ∙ ap (λ s. t.literal s n) (same ∙ ap both at))) (g.plain is)

pub wide_constant_tree : {p q : Stage} {width n : ℕ} {place : Place} {spot : Spot} {x : t.Expression} → IsSized p r.Plain width n q
    → place ≡ here p → spot ≡ both place → x ≡ t.sized_literal spot width n → g.Constant p x q
wide_constant_tree {p = p} {q = q} {width = width} {n = n} is at same made =
    subst (λ x. g.Constant p x q) (sym (made ∙ ap (λ s. t.sized_literal s width n) (same ∙ ap both at))) (g.wide is)

-- the constants of an arm
pub arm_head_tree : {p1 p2 p3 q : Stage} {first : Expr} {before : List Expr} (after : List Expr)
    → g.Constant p1 (expression_of first) p2 → before ≡ first ∷ [] → CollectsConstants p2 before after p3 → IsSign p3 r.Plain s.Colon q → ArmHead p1 (expressions_of after) q
arm_head_tree {p1 = p1} {q = q} after a one more b = subst (λ xs. ArmHead p1 xs q) (sym (more.1 ∙ ap (λ list. join (expressions_of list) more.0) one)) (arm_head a more.2 b)

pub arm_tree : {depth : ℕ} {p1 p2 q : Stage} {constants : t.Expressions} {block : t.CommandBlock} → ArmHead p1 constants p2
    → g.Block depth p2 block q → g.Arm depth p1 constants block q
arm_tree (arm_head a b c) d = g.arm a b c d

-- the first arm and the further ones
pub arms_tree : {depth : ℕ} {p1 p2 p3 p4 q : Stage} {first : Arm} {before : List Arm} (after : List Arm) (last : t.CommandBlock)
    → IsSign p1 r.Plain s.OpenBrace p2 → g.Arm depth p2 (constants_of first) (arm_block_of first) p3 → before ≡ first ∷ []
    → CollectsArms depth p3 before after last p4 → IsSign p4 r.Plain s.CloseBrace q
    → ArmsBetween depth p1 (arms_of after last) q
arms_tree {depth = depth} {p1 = p1} {q = q} after last a b one more c =
    subst (λ arms. ArmsBetween depth p1 arms q) (sym (more.1 ∙ ap (λ list. arms_before list more.0) one)) (arms_between a b more.2 c)

case_one : {depth : ℕ} {p1 p2 q : Stage} {e : t.Expression} {arms : t.Arms} → Asked (r.Command depth) w.Case r.Plain r.Plain p1 e p2 → ArmsBetween (depth + 1) p2 arms q
    → g.Cmd depth p1 (t.case_of (here p1) e arms) q
case_one (asked a (between b c d)) (arms_between f h k l) = g.case a b c d f h k l

pub case_tree : {depth : ℕ} {p1 p2 q : Stage} {e e' : t.Expression} {arms : t.Arms} {place : Place} {x : t.Command} → Asked (r.Command depth) w.Case r.Plain r.Plain p1 e p2
    → ArmsBetween (depth + 1) p2 arms q → place ≡ here p1 → e' ≡ e → x ≡ t.case_of place e' arms → g.Cmd depth p1 x q
case_tree {depth = depth} {p1 = p1} {q = q} {e' = e'} {arms = arms} a b at same made =
    subst (λ x. g.Cmd depth p1 x q) (sym (made ∙ ap (λ place. t.case_of place e' arms) at ∙ ap (λ e. t.case_of (here p1) e arms) same)) (case_one a b)

pub else_tree : {depth : ℕ} {p q : Stage} {block : t.CommandBlock} → Behind w.Else depth p block q → g.Else (depth + 1) p (t.with_else block) q
else_tree (behind a b) = g.else a b

pub arms_before_push : (xs : List Arm) (x : Arm) (ys : t.Arms) → arms_before (xs ++ x ∷ []) ys ≡ arms_before xs (t.and_arm (constants_of x) (arm_block_of x) ys)
arms_before_push [] x ys = refl
arms_before_push (y ∷ xs) x ys = ap (λ zs. t.and_arm (constants_of y) (arm_block_of y) zs) (arms_before_push xs x ys)

pub block_tree : {depth : ℕ} {p1 p2 p3 q : Stage} {list : t.CommandList} {place : Place} → IsSign p1 r.Plain s.OpenBrace p2
    → g.Cmds depth p2 list p3 → IsSign p3 r.Plain s.CloseBrace q → place ≡ here p3
    → g.Block depth p1 (t.command_block list place) q
block_tree {depth = depth} {p1 = p1} {q = q} {list = list} a b c at = subst (λ place. g.Block depth p1 (t.command_block list place) q) (sym at) (g.block a b c)

pub join_commands_push : (xs : List Cmd) (x : Cmd) (ys : t.CommandList)
    → join_commands (commands_of (xs ++ x ∷ [])) ys ≡ join_commands (commands_of xs) (t.and_command (command_of x) ys)
join_commands_push [] x ys = refl
join_commands_push (y ∷ xs) x ys = ap (λ zs. t.and_command (command_of y) zs) (join_commands_push xs x ys)

pub join_commands_none : (xs : t.CommandList) → join_commands xs t.no_command ≡ xs
join_commands_none t.no_command = refl
join_commands_none (t.and_command x xs) = ap (λ zs. t.and_command x zs) (join_commands_none xs)
