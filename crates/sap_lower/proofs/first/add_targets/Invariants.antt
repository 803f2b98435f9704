use Rattle.std.proofs.Common.{◌≡◌, ◌||◌, drop}
use Rattle.sap_maps.specs.Maps.{Name}
use Rattle.sap_net.specs.Names.{is_among}
use Rattle.sap_ir.specs.Calcs.{commands_of}
use Rattle.sap_lower.specs.Lowered.{targets}
use Rattle.sap_share.specs.Sets.{holds}
use Rattle.sap_lower.proofs.first.add_targets.Given as goal

abbrev pub invariant-loop-cmd : goal.invariant-loop-cmd
invariant-loop-cmd l =
    (n : Name) → (is_among n (targets (commands_of (drop l.cmd-index l.cmds))) || holds l.assigned n) ≡ (is_among n (targets (commands_of l.cmds)) || holds l.fn.assigned n)
