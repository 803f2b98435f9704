use Rattle.std.proofs.Common.{rules}
use Rattle.sap_hang.proofs.Tables.{firsts_step}
use Rattle.sap_hang.proofs.hang.firsts.Goals as goal

pub loop-entity-preserved : goal.loop-entity-preserved
loop-entity-preserved c = firsts_step c.args.names.now c.loop-entity.entity _ _ _ _ _ c.name.ensures (search rules) c.in_ok-push.ensures.items c.loop-entity.invariant
