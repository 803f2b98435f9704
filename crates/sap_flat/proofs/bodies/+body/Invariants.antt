use Rattle.std.proofs.Common.{◌+◌, ◌*◌, drop}
use Rattle.sap_ir.specs.Calcs.{commands_of}
use Rattle.sap_flat.specs.Lists.{commands_flat}
use Rattle.sap_flat.proofs.Steps.{Behind}
use Rattle.sap_flat.proofs.Weights.{command_weight, commands_weight}
use Rattle.sap_flat.proofs.bodies.+body.Given as goal

abbrev pub decreases-command : goal.decreases-command
decreases-command l = 2 * command_weight l.command.now

abbrev pub decreases-commands : goal.decreases-commands
decreases-commands l = 2 * commands_weight l.commands.now + 1

abbrev pub invariant-commands-loop-cmd : goal.invariant-commands-loop-cmd
invariant-commands-loop-cmd l =
    Behind (commands_of l.out.items) (commands_of l.initial.out.items)
    (commands_flat l.seat l.group l.fell (drop l.cmd-index l.commands) l.j l.gates) (commands_flat l.seat l.group l.fell l.commands l.j l.initial.gates)
