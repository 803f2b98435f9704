-- E10: a body must close. A transfer is a `goto` or a `fall`; it stands last, and only there.
use Rattle.std.specs.Prelude.{List, [], ◌++◌, Bool, true, false, not, if◌then◌else◌}
use Rattle.sap_text.specs.declared.place.Place.{Place}
use Rattle.sap_tree.specs.Syntax.{SimpleCommand, assign, write, set_tag, set_cell_tag, go_to, fall_to_child, Command, lone, try, if_else, try_then, case_of, Arms, last_arm, and_arm, CommandBlock, command_block, ElseBlock, no_else, with_else, CommandList, no_command, and_command}
use Rattle.sap_tree.specs.Walks.{folded, folded_in_block, folded_in_else, folded_in_arms, folded_in_list}
use Rattle.sap_names.specs.declared.fault.Fault.{Fault}
use Rattle.sap_names.specs.declared.kind.Code.TheVariants.{E10}
use Rattle.sap_names.specs.NameFaults.{fault_if}
use Rattle.sap_shape.specs.Paths.{place_of}

-- A transfer is a `goto` or a `fall`.
abbrev pub is_transfer : SimpleCommand → Bool
is_transfer (assign target e) = false
is_transfer (write target index e) = false
is_transfer (set_tag place target tag) = false
is_transfer (set_cell_tag place target index tag) = false
is_transfer (go_to place target) = true
is_transfer (fall_to_child place) = true

-- A transfer that doesn't stand last has E10 at its first token.
abbrev pub transfer_faults : SimpleCommand → List Fault
transfer_faults k = fault_if (is_transfer k) E10 (place_of k)

-- The faults E10 of a command with `then`: if it is a transfer, one at the `then` alone, else those of its blocks.
abbrev pub then_faults : SimpleCommand → (place : Place) → (blocks : List Fault) → List Fault
then_faults k place blocks = if is_transfer k then fault_if true E10 place else blocks

-- The faults E10 of a command that must be open, where its blocks have `below`.
abbrev pub own_open : Command → (below : List Fault) → List Fault
own_open (lone k) below = transfer_faults k
own_open (try k place handler) below = transfer_faults k ++ below
own_open (if_else place condition then_block else_block) below = below
own_open (try_then k place accepted refused) below = then_faults k place below
own_open (case_of place e arms) below = below

-- The faults E10 of a command that must be open, and of all commands in it.
abbrev pub open_faults : Command → List Fault
open_faults c = folded [] ◌++◌ own_open c

-- The faults E10 of a block whose commands must be open.
abbrev pub open_block_faults : CommandBlock → List Fault
open_block_faults block = folded_in_block [] ◌++◌ own_open block

-- The faults E10 of an `else`, if there is one, whose commands must be open.
abbrev pub open_else_faults : ElseBlock → List Fault
open_else_faults other = folded_in_else [] ◌++◌ own_open other

-- The faults E10 of the arms of a `case` whose commands must be open.
abbrev pub open_arms_faults : Arms → List Fault
open_arms_faults arms = folded_in_arms [] ◌++◌ own_open arms

-- The faults E10 of a list whose commands must be open.
abbrev pub open_list_faults : CommandList → List Fault
open_list_faults list = folded_in_list [] ◌++◌ own_open list

-- A simple command that ends a list that must close has E10 at the token after the list if it is no transfer.
abbrev pub last_simple_faults : SimpleCommand → (after : Place) → List Fault
last_simple_faults k after = fault_if (not (is_transfer k)) E10 after

-- The handler of a last command that is a transfer must close; another must be open.
abbrev pub last_handler_faults : SimpleCommand → (opened closing : List Fault) → List Fault
last_handler_faults k opened closing = if is_transfer k then closing else opened

-- No command is left.
abbrev pub is_end : CommandList → Bool
is_end no_command = true
is_end (and_command c cs) = false

-- The faults E10 of the last command of a list that must close. Each block of an `if`, a `case` or a `then` must close,
-- and so must the handler of a transfer. Without a `then`, a simple command that is no transfer is a fault itself, and
-- its handler must be open.
abbrev mutual
  pub last_faults : Command → (after : Place) → List Fault
  last_faults (lone k) after = last_simple_faults k after
  last_faults (try k place handler) after =
      last_simple_faults k after ++ last_handler_faults k (open_block_faults handler) (closing_faults handler)
  last_faults (if_else place condition then_block else_block) after =
      closing_faults then_block ++ closing_else_faults else_block place
  last_faults (try_then k place accepted refused) after =
      then_faults k place (closing_faults accepted ++ closing_faults refused)
  last_faults (case_of place e arms) after = closing_arms_faults arms

  -- Without `else` the fault is at the `if`.
  pub closing_else_faults : ElseBlock → Place → List Fault
  closing_else_faults no_else place = fault_if true E10 place
  closing_else_faults (with_else b) place = closing_faults b

  pub closing_arms_faults : Arms → List Fault
  closing_arms_faults (last_arm b) = closing_faults b
  closing_arms_faults (and_arm constants b arms) = closing_faults b ++ closing_arms_faults arms

  -- The faults E10 of a block that must close.
  pub closing_faults : CommandBlock → List Fault
  closing_faults (command_block cs after) = closing_list_faults cs after

  -- The faults E10 of a list that must close: every command but the last must be open, and an empty list has E10 at
  -- the token after it.
  pub closing_list_faults : CommandList → (after : Place) → List Fault
  closing_list_faults no_command after = fault_if true E10 after
  closing_list_faults (and_command c cs) after =
      if is_end cs then last_faults c after else (open_faults c ++ closing_list_faults cs after)
