use Rattle.std.proofs.Common.{arith}
use Rattle.sap_hang.proofs.Tables.{stores_start, stores_step}
use Rattle.sap_hang.proofs.hang.stores.Goals as goal

pub loop-at-init : goal.loop-at-init
loop-at-init c = stores_start c.args.names.now c.args.declarations.now _ _ (omega arith) c.new-stores.ensures

pub loop-at-preserved : goal.loop-at-preserved
loop-at-preserved c =
    stores_step c.args.names.now c.args.declarations.now _ c.loop-at.at c.index-declarations-at.result _ _ (omega arith) (omega arith)
    c.index-declarations-at.is c.loop-at.invariant c.in_ok-add_declared.ensures
