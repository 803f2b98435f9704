-- The parts of commands and of states weigh less than these.
use Rattle.std.proofs.Common.{◌≡◌, ℕ, ◌+◌, ◌<◌, List, length, get_or, Option, Some, ap, arith}
use Rattle.sap_text.specs.declared.place.Place.{Place}
use Rattle.sap_tree.specs.Prelude.{last_arm, command_of, commands_of, block_of, arms_of, else_of, state_of, states_of}
use Rattle.sap_tree.specs.declared.syntax.Arm.{Arm}
use Rattle.sap_tree.specs.declared.syntax.Block.{Block}
use Rattle.sap_tree.specs.declared.syntax.Cmd.{Cmd}
use Rattle.sap_tree.specs.declared.syntax.State.{State, out-State}
use Rattle.sap_tree.specs.Syntax as tree
use Rattle.sap_tree.proofs.Views.{state_of-out}
use Rattle.sap_tree.proofs.Weights.{command_weight, commands_weight, arm_list_weight, else_weight, state_weight, states_weight, commands_weight-in, arms_weight-of, arms_weight-in, states_weight-in}

pub try_lighter : (t : tree.Command) (s : tree.SimpleCommand) (place : Place) (b : Block) (seen : List Cmd) → t ≡ tree.try s place (block_of b) → seen ≡ b.commands.items
    → commands_weight (commands_of seen) < command_weight t
try_lighter t s place b seen is same =
    (let e = ap (λ (c : tree.Command). command_weight c) is in let f = ap (λ (l : List Cmd). commands_weight (commands_of l)) same in omega (arith, e, f))

pub if_lighter : (t : tree.Command) (place : Place) (x : tree.Expression) (one : Block) (other : tree.ElseBlock) (seen : List Cmd)
    → t ≡ tree.if_else place x (block_of one) other → seen ≡ one.commands.items
    → commands_weight (commands_of seen) < command_weight t
if_lighter t place x one other seen is same =
    (let e = ap (λ (c : tree.Command). command_weight c) is in let f = ap (λ (l : List Cmd). commands_weight (commands_of l)) same in omega (arith, e, f))

pub else_lighter : (t : tree.Command) (place : Place) (x : tree.Expression) (one : Block) (other : tree.ElseBlock)
    → t ≡ tree.if_else place x (block_of one) other → else_weight other + 1 < command_weight t
else_lighter t place x one other is = (let e = ap (λ (c : tree.Command). command_weight c) is in omega (arith, e))

pub accepted_lighter : (t : tree.Command) (s : tree.SimpleCommand) (place : Place) (a b : Block) (seen : List Cmd)
    → t ≡ tree.try_then s place (block_of a) (block_of b) → seen ≡ a.commands.items
    → commands_weight (commands_of seen) < command_weight t
accepted_lighter t s place a b seen is same =
    (let e = ap (λ (c : tree.Command). command_weight c) is in let f = ap (λ (l : List Cmd). commands_weight (commands_of l)) same in omega (arith, e, f))

pub refused_lighter : (t : tree.Command) (s : tree.SimpleCommand) (place : Place) (a b : Block) (seen : List Cmd)
    → t ≡ tree.try_then s place (block_of a) (block_of b) → seen ≡ b.commands.items
    → commands_weight (commands_of seen) < command_weight t
refused_lighter t s place a b seen is same =
    (let e = ap (λ (c : tree.Command). command_weight c) is in let f = ap (λ (l : List Cmd). commands_weight (commands_of l)) same in omega (arith, e, f))

module _ (t : tree.Command) (place : Place) (x : tree.Expression) (arms : List Arm) (last : Block) (is : t ≡ tree.case_of place x (arms_of arms (block_of last))) where
  whole : command_weight t ≡ arm_list_weight arms + commands_weight (commands_of last.commands.items) + 2
  whole = (let e = ap (λ (c : tree.Command). command_weight c) is in let w = arms_weight-of arms (last_arm (block_of last)) in omega (arith, e, w))

  pub arms_lighter : (seen : List Arm) → seen ≡ arms → arm_list_weight seen < command_weight t
  arms_lighter seen same = (let f = ap (λ (l : List Arm). arm_list_weight l) same in let w = whole in omega (arith, f, w))

  pub last_lighter : (seen : List Cmd) → seen ≡ last.commands.items → commands_weight (commands_of seen) < command_weight t
  last_lighter seen same = (let f = ap (λ (l : List Cmd). commands_weight (commands_of l)) same in let w = whole in omega (arith, f, w))

pub arm_lighter : (arms : List Arm) (n : ℕ) (d : Arm) (seen : List Cmd) → n < length arms → d ≡ get_or arms n d → seen ≡ d.block.commands.items
    → commands_weight (commands_of seen) < arm_list_weight arms
arm_lighter arms n d seen l e same =
    (let f = ap (λ (a : Arm). commands_weight (commands_of a.block.commands.items)) e in
    let g = arms_weight-in arms n d l in
    let i = ap (λ (l : List Cmd). commands_weight (commands_of l)) same in omega (arith, f, g, i))

pub some_lighter : (other : Option Block) (b : Block) (seen : List Cmd) → other ≡ Some b → seen ≡ b.commands.items
    → commands_weight (commands_of seen) < else_weight (else_of other) + 1
some_lighter other b seen is same =
    (let e = ap (λ (o : Option Block). else_weight (else_of o)) is in let f = ap (λ (l : List Cmd). commands_weight (commands_of l)) same in omega (arith, e, f))

pub command_lighter : (cs : List Cmd) (n : ℕ) (d : Cmd) → n < length cs → d ≡ get_or cs n d → command_weight (command_of d) < commands_weight (commands_of cs)
command_lighter cs n d l e = (let f = ap (λ (c : Cmd). command_weight (command_of c)) e in let g = commands_weight-in cs n d l in omega (arith, f, g))

pub state_lighter : (ss : List State) (n : ℕ) (d : State) → n < length ss → d ≡ get_or ss n d → state_weight (state_of d) < states_weight (states_of ss)
state_lighter ss n d l e = (let f = ap (λ (s : State). state_weight (state_of s)) e in let g = states_weight-in ss n d l in omega (arith, f, g))

pub children_lighter : (s : State) (seen : List State) → seen ≡ (out-State s).children.items → states_weight (states_of seen) < state_weight (state_of s)
children_lighter s seen same =
    (let e = ap (λ (t : tree.StateTree). state_weight t) (state_of-out s) in let f = ap (λ (l : List State). states_weight (states_of l)) same in omega (arith, e, f))
