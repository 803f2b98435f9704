use Rattle.std.proofs.Common.{◌∙◌, sym, arith}
use Rattle.sap_shape.proofs.Falling.{arms_here, falls_here}
use Rattle.sap_shape.proofs.falls.+falls.Goals as goal

pub has_fall-loop-command-preserved : goal.has_fall-loop-command-preserved
has_fall-loop-command-preserved t c =
    sym (falls_here c.args.commands.now c.loop-command.command-index c.command-item.result _ (omega arith) c.command-item.is
    (sym c.if-command_falls.false ∙ c.command_falls.ensures))
    ∙ c.loop-command.invariant

pub has_fall-returns-then-command_falls : goal.has_fall-returns-then-command_falls
has_fall-returns-then-command_falls t c =
    sym (falls_here c.args.commands.now c.loop-command.command-index c.command-item.result _ (omega arith) c.command-item.is
    (sym c.if-command_falls.true ∙ c.command_falls.ensures))
    ∙ c.loop-command.invariant

pub arms_fall-loop-arm-preserved : goal.arms_fall-loop-arm-preserved
arms_fall-loop-arm-preserved t c =
    sym (arms_here c.args.arms.now c.loop-arm.arm-index c.arm-item.result _ _ (omega arith) c.arm-item.is c.as_slice.ensures.value (sym c.if-has_fall.false ∙ c.has_fall.ensures))
    ∙ c.loop-arm.invariant

pub arms_fall-returns-then-has_fall : goal.arms_fall-returns-then-has_fall
arms_fall-returns-then-has_fall t c =
    sym (arms_here c.args.arms.now c.loop-arm.arm-index c.arm-item.result _ _ (omega arith) c.arm-item.is c.as_slice.ensures.value (sym c.if-has_fall.true ∙ c.has_fall.ensures))
    ∙ c.loop-arm.invariant
