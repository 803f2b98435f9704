-- E10, places aside.
use Rattle.std.proofs.Common.{List, [], ◌++◌, true}
use Rattle.sap_text.specs.declared.place.Place.{Place}
use Rattle.sap_tree.specs.Syntax.{SimpleCommand, go_to, fall_to_child, Command, lone, try, if_else, try_then, case_of, Arms, last_arm, and_arm, CommandBlock, command_block, ElseBlock, no_else, with_else, CommandList, no_command, and_command}
use Rattle.sap_tree.specs.Bare.{nowhere, bare_simple, bare_command, bare_block, bare_else, bare_arms, bare_list}
use Rattle.sap_names.specs.declared.fault.Fault.{Fault}
use Rattle.sap_names.specs.declared.kind.Code.TheVariants.{E10}
use Rattle.sap_shape.specs.Closing.{transfer_faults, then_faults, own_open, last_simple_faults, last_handler_faults, last_faults, closing_else_faults, closing_arms_faults, closing_faults, closing_list_faults}
use Rattle.sap_layout.proofs.Asides.{Aside, none, one, both}
use Rattle.sap_layout.proofs.Walked.{AreAlike, command_folded, block_folded}

transfer_aside : (k : SimpleCommand) → Aside (transfer_faults (bare_simple k)) (transfer_faults k)
unfolding bare_simple
transfer_aside (go_to place target) = one true E10 place
transfer_aside (fall_to_child place) = one true E10 place
transfer_aside _ = none

then_aside : (k : SimpleCommand) (place : Place) (a b : List Fault) → Aside a b → Aside (then_faults (bare_simple k) nowhere a) (then_faults k place b)
unfolding bare_simple
then_aside (go_to _ target) place a b h = one true E10 place
then_aside (fall_to_child _) place a b h = one true E10 place
then_aside _ place a b h = h

open_aside : AreAlike [] ◌++◌ own_open own_open Aside
unfolding bare_command
open_aside = record { ends = none; joins = λ a b c d. both; owns = owned }
  where
    owned : (c : Command) (a b : List Fault) → Aside a b → Aside (own_open (bare_command c) a) (own_open c b)
    owned (lone k) a b h = transfer_aside k
    owned (try k place handler) a b h = both (transfer_aside k) h
    owned (try_then k place one other) a b h = then_aside k place a b h
    owned _ a b h = h

last_simple_aside : (k : SimpleCommand) (after : Place) → Aside (last_simple_faults (bare_simple k) nowhere) (last_simple_faults k after)
unfolding bare_simple
last_simple_aside (go_to place target) after = none
last_simple_aside (fall_to_child place) after = none
last_simple_aside _ after = one true E10 after

handler_aside : (k : SimpleCommand) (a b c d : List Fault) → Aside a b → Aside c d → Aside (last_handler_faults (bare_simple k) a c) (last_handler_faults k b d)
unfolding bare_simple
handler_aside (go_to place target) a b c d h i = i
handler_aside (fall_to_child place) a b c d h i = i
handler_aside _ a b c d h i = h

mutual
  unfolding bare_command bare_block bare_else bare_arms bare_list

  last_aside : (c : Command) (after : Place) → Aside (last_faults (bare_command c) nowhere) (last_faults c after)
  last_aside (lone k) after = last_simple_aside k after
  last_aside (try k place handler) after = both (last_simple_aside k after)
      (handler_aside k _ _ _ _ (block_folded [] ◌++◌ own_open own_open Aside open_aside handler) (closing_aside handler))
  last_aside (if_else place e one other) after = both (closing_aside one) (closing_else_aside other place)
  last_aside (try_then k place one other) after = then_aside k place _ _ (both (closing_aside one) (closing_aside other))
  last_aside (case_of place e arms) after = closing_arms_aside arms

  closing_else_aside : (other : ElseBlock) (place : Place) → Aside (closing_else_faults (bare_else other) nowhere) (closing_else_faults other place)
  closing_else_aside no_else place = one true E10 place
  closing_else_aside (with_else b) place = closing_aside b

  closing_arms_aside : (arms : Arms) → Aside (closing_arms_faults (bare_arms arms)) (closing_arms_faults arms)
  closing_arms_aside (last_arm b) = closing_aside b
  closing_arms_aside (and_arm constants b arms) = both (closing_aside b) (closing_arms_aside arms)

  pub closing_aside : (b : CommandBlock) → Aside (closing_faults (bare_block b)) (closing_faults b)
  closing_aside (command_block list after) = closing_list_aside list after

  closing_list_aside : (list : CommandList) (after : Place) → Aside (closing_list_faults (bare_list list) nowhere) (closing_list_faults list after)
  closing_list_aside no_command after = one true E10 after
  closing_list_aside (and_command c no_command) after = last_aside c after
  closing_list_aside (and_command c (and_command d list)) after =
      both (command_folded [] ◌++◌ own_open own_open Aside open_aside c) (closing_list_aside (and_command d list) after)
