-- The sizes of trees, by which recursions end.
use Rattle.std.proofs.Common.{◌≡◌, ℕ, zero, suc, ◌+◌, ◌<◌, length, get_or, arith, List, [], ◌∷◌, ap, sym, subst, ◌∙◌}
use Rattle.std.specs.Prelude.{Option, Vec}
use Rattle.std.proofs.Common.{Global}
use Rattle.sap_tree.specs.declared.syntax.Simple.{Simple}
use Rattle.sap_text.specs.declared.place.Place.{Place}
use Rattle.sap_tree.specs.declared.syntax.Arm.{Arm}
use Rattle.sap_tree.specs.declared.syntax.Block.{Block}
use Rattle.sap_tree.specs.declared.syntax.Expr.{Expr}
use Rattle.sap_tree.specs.declared.syntax.Cmd.TheVariants as c
use Rattle.sap_tree.specs.Trees.{else_of}
use Rattle.sap_tree.proofs.Views.{command_of-if, command_of-try_then, command_of-case}
use Rattle.sap_tree.specs.declared.syntax.Cmd.{Cmd}
use Rattle.sap_tree.specs.declared.syntax.TagExpr.{TagExpr}
use Rattle.sap_tree.specs.declared.syntax.State.{State}
use Rattle.sap_tree.specs.Trees.{tag_of, tags_of, command_of, commands_of, block_of, arm_block_of, arms_before, state_of, states_of}
use Rattle.sap_tree.specs.Syntax.{Expression, literal, sized_literal, variable, cell_at, unary_of, binary_of, choice, slice, concat, zero_extend, Expressions, no_part, and_part, TagExpression, level_of, tag_at, level_at, join_of, TagExpressions, no_tag, and_tag, Command, lone, try, if_else, try_then, case_of, Arms, last_arm, CommandBlock, command_block, ElseBlock, no_else, with_else, CommandList, no_command, and_command, StateTree, state_node, StateList, no_state, and_state}
use Rattle.sap_tree.specs.Syntax as tree

abbrev mutual
  pub weight : Expression → ℕ
  weight (literal spot n) = 1
  weight (sized_literal spot w n) = 1
  weight (variable spot name) = 1
  weight (cell_at spot name i) = weight i + 1
  weight (unary_of spot o x) = weight x + 1
  weight (binary_of spot o x y) = weight x + weight y + 1
  weight (choice spot x y z) = weight x + weight y + weight z + 1
  weight (slice spot x high low) = weight x + 1
  weight (concat spot parts) = parts_weight parts + 1
  weight (zero_extend spot x w) = weight x + 1

  pub parts_weight : Expressions → ℕ
  parts_weight no_part = 1
  parts_weight (and_part x parts) = weight x + parts_weight parts + 1

abbrev mutual
  pub tag_weight : TagExpression → ℕ
  tag_weight (level_of m) = 1
  tag_weight (tag_at place x) = 1
  tag_weight (level_at place x) = 1
  tag_weight (join_of place parts) = tags_weight parts + 1

  pub tags_weight : TagExpressions → ℕ
  tags_weight no_tag = 1
  tags_weight (and_tag t parts) = tag_weight t + tags_weight parts + 1

abbrev mutual
  pub command_weight : Command → ℕ
  command_weight (lone k) = 1
  command_weight (try k place handler) = block_weight handler + 2
  command_weight (if_else place x yes_block no_block) = block_weight yes_block + else_weight no_block + 2
  command_weight (try_then k place accepted refused) = block_weight accepted + block_weight refused + 2
  command_weight (case_of place x arms) = arms_weight arms + 2

  pub arms_weight : Arms → ℕ
  arms_weight (last_arm b) = block_weight b
  arms_weight (tree.and_arm constants b arms) = block_weight b + arms_weight arms + 1

  pub block_weight : CommandBlock → ℕ
  block_weight (command_block cs after) = commands_weight cs

  pub else_weight : ElseBlock → ℕ
  else_weight no_else = 1
  else_weight (with_else b) = block_weight b

  pub commands_weight : CommandList → ℕ
  commands_weight no_command = 1
  commands_weight (and_command c cs) = command_weight c + commands_weight cs + 1

abbrev mutual
  pub state_weight : StateTree → ℕ
  state_weight (state_node place name kind body children) = states_weight children + 1

  pub states_weight : StateList → ℕ
  states_weight no_state = 1
  states_weight (and_state s rest) = state_weight s + states_weight rest + 1

-- of the arms that code has in a list
abbrev pub arm_list_weight : List Arm → ℕ
arm_list_weight [] = 0
arm_list_weight (arm ∷ arms) = block_weight (arm_block_of arm) + arm_list_weight arms + 1

pub arms_weight-of : (arms : List Arm) (others : Arms) → arms_weight (arms_before arms others) ≡ arm_list_weight arms + arms_weight others
arms_weight-of [] others = omega arith
arms_weight-of (arm ∷ arms) others = let r = arms_weight-of arms others in omega (arith, r)

pub arms_weight-in : (arms : List Arm) (n : ℕ) (d : Arm) → n < length arms → block_weight (arm_block_of (get_or arms n d)) < arm_list_weight arms
arms_weight-in [] n d h = absurd (omega arith)
arms_weight-in (arm ∷ arms) zero d h = omega arith
arms_weight-in (arm ∷ arms) (suc n) d h = let r = arms_weight-in arms n d (omega arith) in omega arith

pub tags_weight-in : (ts : List TagExpr) (n : ℕ) (d : TagExpr) → n < length ts → tag_weight (tag_of (get_or ts n d)) < tags_weight (tags_of ts)
tags_weight-in [] n d h = absurd (omega arith)
tags_weight-in (t ∷ ts) zero d h = omega arith
tags_weight-in (t ∷ ts) (suc n) d h = let r = tags_weight-in ts n d (omega arith) in omega arith

pub commands_weight-in : (cs : List Cmd) (n : ℕ) (d : Cmd) → n < length cs → command_weight (command_of (get_or cs n d)) < commands_weight (commands_of cs)
commands_weight-in [] n d h = absurd (omega arith)
commands_weight-in (c ∷ cs) zero d h = omega arith
commands_weight-in (c ∷ cs) (suc n) d h = let r = commands_weight-in cs n d (omega arith) in omega arith

pub states_weight-in : (ss : List State) (n : ℕ) (d : State) → n < length ss → state_weight (state_of (get_or ss n d)) < states_weight (states_of ss)
states_weight-in [] n d h = absurd (omega arith)
states_weight-in (s ∷ ss) zero d h = omega arith
states_weight-in (s ∷ ss) (suc n) d h = let r = states_weight-in ss n d (omega arith) in omega arith

-- an `else` weighs less than its `if`
pub else_lighter : (x : Cmd) (place : Place) (e : Expr) (one : Block) (other : Option Block) → x ≡ c.If place e one other
    → else_weight (else_of other) + 1 < command_weight (command_of x)
else_lighter x place e one other is =
    subst (λ (y : Command). else_weight (else_of other) + 1 < command_weight y) (sym (ap command_of is ∙ command_of-if place e one other)) (omega arith)

pub accepted_lighter : (x : Cmd) (k : Simple) (place : Place) (a b : Block) → x ≡ c.TryThen k place a b → block_weight (block_of a) < command_weight (command_of x)
accepted_lighter x k place a b is =
    subst (λ (y : Command). block_weight (block_of a) < command_weight y) (sym (ap command_of is ∙ command_of-try_then k place a b)) (omega arith)

pub refused_lighter : (x : Cmd) (k : Simple) (place : Place) (a b : Block) → x ≡ c.TryThen k place a b → block_weight (block_of b) < command_weight (command_of x)
refused_lighter x k place a b is =
    subst (λ (y : Command). block_weight (block_of b) < command_weight y) (sym (ap command_of is ∙ command_of-try_then k place a b)) (omega arith)

pub arms_lighter : (x : Cmd) (place : Place) (e : Expr) (arms : Vec Arm Global) (last : Block) → x ≡ c.Case place e arms last
    → arm_list_weight arms.items < command_weight (command_of x)
arms_lighter x place e arms last is =
    let w = arms_weight-of arms.items (last_arm (block_of last)) in
    subst (λ (y : Command). arm_list_weight arms.items < command_weight y) (sym (ap command_of is ∙ command_of-case place e arms last)) (omega (arith, w))

pub last_lighter : (x : Cmd) (place : Place) (e : Expr) (arms : Vec Arm Global) (last : Block) → x ≡ c.Case place e arms last
    → block_weight (block_of last) < command_weight (command_of x)
last_lighter x place e arms last is =
    let w = arms_weight-of arms.items (last_arm (block_of last)) in
    subst (λ (y : Command). block_weight (block_of last) < command_weight y) (sym (ap command_of is ∙ command_of-case place e arms last)) (omega (arith, w))

pub ruleset weights = (tags_weight-in, commands_weight-in, arms_weight-in, states_weight-in)
