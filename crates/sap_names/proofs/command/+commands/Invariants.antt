use Rattle.std.proofs.Common.{◌≡◌, ◌+◌, drop}
use Rattle.sap_tree.specs.Trees.{command_of, commands_of, else_of}
use Rattle.sap_names.specs.Best.{best_of}
use Rattle.sap_names.specs.Lists.{arms_faults, commands_faults}
use Rattle.sap_names.specs.Entities.{what_is}
use Rattle.sap_tree.proofs.Weights.{arm_list_weight, command_weight, commands_weight, else_weight}
use Rattle.sap_names.proofs.command.+commands.Given as goal

abbrev pub decreases-command_faults : goal.decreases-command_faults
decreases-command_faults l = command_weight (command_of l.command.now)

abbrev pub decreases-commands_faults : goal.decreases-commands_faults
decreases-commands_faults l = commands_weight (commands_of l.commands.now)

abbrev pub decreases-else_faults : goal.decreases-else_faults
decreases-else_faults l = else_weight (else_of l.other.now) + 1

abbrev pub decreases-arms_faults : goal.decreases-arms_faults
decreases-arms_faults l = arm_list_weight l.arms.now

abbrev pub invariant-arms_faults-loop-arm : goal.invariant-arms_faults-loop-arm
invariant-arms_faults-loop-arm l =
    best_of l.best (arms_faults l.lattice.names (what_is l.names) l.asked (drop l.arm-index l.arms))
    ≡ best_of l.initial.best (arms_faults l.lattice.names (what_is l.names) l.asked l.arms)

-- what is left gives the first of all
abbrev pub invariant-commands_faults-loop-command : goal.invariant-commands_faults-loop-command
invariant-commands_faults-loop-command l =
    best_of l.best (commands_faults l.lattice.names (what_is l.names) (drop l.command-index l.commands))
    ≡ best_of l.initial.best (commands_faults l.lattice.names (what_is l.names) l.commands)
