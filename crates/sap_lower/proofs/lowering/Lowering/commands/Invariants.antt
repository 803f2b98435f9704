use Rattle.std.proofs.Common.{◌≡◌, drop}
use Rattle.sap_ir.specs.Calcs.{commands_of}
use Rattle.sap_lower.specs.Commands.{low_commands}
use Rattle.sap_lower.proofs.lowering.Lowering.commands.Given as goal

abbrev pub invariant-loop-cmd : goal.invariant-loop-cmd
invariant-loop-cmd l = low_commands l.memories l.self (commands_of (drop l.cmd-index l.cmds)) ≡ low_commands l.memories l.fn.self (commands_of l.cmds)
