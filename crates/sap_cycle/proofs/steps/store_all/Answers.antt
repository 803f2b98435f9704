use Rattle.sap_lemmas.proofs.Common.{refl, arith, common_steps}
use Rattle.sap_cycle.proofs.steps.store_all.Goals as goal

pub loop-port-init : goal.loop-port-init
loop-port-init c = (refl, c.requires)

pub read-requires : goal.read-requires
read-requires c = grind (arith, common_steps)

pub read-requires-then-read-eq1 : goal.read-requires-then-read-eq1
read-requires-then-read-eq1 c = grind (arith, common_steps)

pub read-requires-then-read-eq1-2 : goal.read-requires-then-read-eq1-2
read-requires-then-read-eq1-2 c = grind (arith, common_steps)

pub bounds-cells-port : goal.bounds-cells-port
bounds-cells-port c = grind (arith, common_steps)

pub loop-port-preserved : goal.loop-port-preserved
loop-port-preserved c = grind (arith, common_steps)

pub returns : goal.returns
returns c = grind (arith, common_steps)
