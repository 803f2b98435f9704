use Rattle.std.proofs.Common.{◌∙◌, arith}
use Rattle.sap_resolve.proofs.Worlds.{childless_step, childless_end}
use Rattle.sap_resolve.proofs.children.add_none.Goals as goal

pub loop-declaration-preserved : goal.loop-declaration-preserved
loop-declaration-preserved c = childless_step c.args.declarations.now c.loop-declaration._declaration-index c._declaration-item.result
    _ _ (omega arith) c._declaration-item.is c.in_ok-push.ensures.items ∙ c.loop-declaration.invariant

pub returns : goal.returns
returns c = childless_end c.args.declarations.now c.loop-declaration._declaration-index _ _ (omega arith) c.loop-declaration.invariant
