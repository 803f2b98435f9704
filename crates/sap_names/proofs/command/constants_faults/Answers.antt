use Rattle.std.proofs.Common.{◌∙◌, arith}
use Rattle.sap_names.specs.Entities.{what_is}
use Rattle.sap_names.proofs.Lists.{constants_step}
use Rattle.sap_names.proofs.command.constants_faults.Goals as goal

pub loop-constant-preserved : goal.loop-constant-preserved
loop-constant-preserved c =
    constants_step (what_is c.args.names.now) c.args.asked c.args.constants.now c.loop-constant.constant-index c.constant-item.result _ _ (omega arith) c.constant-item.is
    c.expression_faults.ensures
    ∙ c.loop-constant.invariant
