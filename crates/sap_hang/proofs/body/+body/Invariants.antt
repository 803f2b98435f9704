use Rattle.std.proofs.Common.{◌+◌, drop}
use Rattle.sap_tree.specs.Trees.{arms_of, block_of, command_of, commands_of, else_of}
use Rattle.sap_hang.specs.Walks.{Walked, arms_part, list_part}
use Rattle.sap_tree.proofs.Weights.{arms_weight, command_weight, commands_weight, else_weight}
use Rattle.sap_hang.proofs.body.+body.Given as goal

abbrev pub decreases-add_command : goal.decreases-add_command
decreases-add_command l = command_weight (command_of l.command.now)

abbrev pub decreases-add_list : goal.decreases-add_list
decreases-add_list l = commands_weight (commands_of l.commands.now)

abbrev pub decreases-add_else : goal.decreases-add_else
decreases-add_else l = else_weight (else_of l.other.now) + 1

abbrev pub decreases-add_arms : goal.decreases-add_arms
decreases-add_arms l = arms_weight (arms_of l.arms.now (block_of l.last.now)) + 1

-- those from the place on are walked
abbrev pub invariant-add_list-loop-at : goal.invariant-add_list-loop-at
invariant-add_list-loop-at l =
    Walked l.standing (list_part l.standing (commands_of (drop l.at l.commands))) l.fn.rows.items l.fn.assigned l.fn.touched l.rows.items l.assigned l.touched

abbrev pub invariant-add_arms-loop-at : goal.invariant-add_arms-loop-at
invariant-add_arms-loop-at l =
    Walked l.standing (arms_part l.standing (arms_of (drop l.at l.arms) (block_of l.last))) l.fn.rows.items l.fn.assigned l.fn.touched l.rows.items l.assigned l.touched
