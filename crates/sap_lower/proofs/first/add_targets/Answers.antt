use Rattle.std.proofs.Common.{◌<◌, length, arith}
use Rattle.sap_lower.proofs.Targets.{targets_step}
use Rattle.sap_lower.proofs.first.add_targets.Goals as goal

pub loop-cmd-preserved : goal.loop-cmd-preserved
loop-cmd-preserved c n =
    let l : c.loop-cmd.cmd-index < length c.args.cmds.now = omega arith in
    targets_step c.args.cmds.now c.loop-cmd.cmd-index c.cmd-item.result c.loop-cmd.assigned c.add_target.new.assigned n _ l c.cmd-item.is
    c.in_ok-add_target.ensures (c.loop-cmd.invariant n)
