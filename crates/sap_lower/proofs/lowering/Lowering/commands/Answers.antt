use Rattle.std.proofs.Common.{◌<◌, length, arith}
use Rattle.sap_ir.specs.Calcs.{commands_of}
use Rattle.sap_lower.specs.Commands.{low_commands}
use Rattle.sap_lower.proofs.Steps.{commands_step}
use Rattle.sap_lower.proofs.lowering.Lowering.commands.Goals as goal

pub loop-cmd-preserved : goal.loop-cmd-preserved
loop-cmd-preserved c =
    let ms = c.args.memories.now in
    let l : c.loop-cmd.cmd-index < length c.args.cmds.now = omega arith in
    commands_step ms c.loop-cmd.self c.command.new.self (low_commands ms c.args.self.now (commands_of c.args.cmds.now)) c.args.cmds.now
    c.loop-cmd.cmd-index c.cmd-item.result l c.cmd-item.is
    c.in_ok-command.ensures c.loop-cmd.invariant
