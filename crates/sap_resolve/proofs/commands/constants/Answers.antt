use Rattle.std.proofs.Common.{◌∙◌, arith}
use Rattle.sap_resolve.proofs.Arms.{numbers_step, numbers_end}
use Rattle.sap_resolve.proofs.commands.constants.Goals as goal

pub loop-e-preserved : goal.loop-e-preserved
loop-e-preserved c =
    numbers_step c.args.list.now c.loop-e.e-index c.e-item.result c.loop-e.made.items _ _ (omega arith) c.e-item.is c.in_ok-push.ensures.items c.constant.ensures
    ∙ c.loop-e.invariant

pub returns : goal.returns
returns c = numbers_end c.args.list.now c.loop-e.e-index c.loop-e.made.items _ (omega arith) c.loop-e.invariant
