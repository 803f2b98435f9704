use Rattle.std.proofs.Common.{◌∙◌, ap, arith}
use Rattle.sap_tree.specs.Trees.{command_of}
use Rattle.sap_tree.proofs.Views.{command_of-case}
use Rattle.sap_names.specs.Best.{best_of}
use Rattle.sap_names.proofs.Faults.{both}
use Rattle.sap_shape.specs.Lists.{arms_shape, list_shape}
use Rattle.sap_shape.specs.Positions.{body_of}
use Rattle.sap_shape.specs.ShapeFaults.{command_shape}
use Rattle.sap_shape.proofs.Bodies.{arms_shape-of, arms_step, shape_step}
use Rattle.sap_shape.proofs.body.+body.Goals as goal

pub list_shape-loop-command-preserved : goal.list_shape-loop-command-preserved
list_shape-loop-command-preserved t c =
    shape_step c.args.names.now (body_of c.args.position.now) c.args.commands.now c.loop-command.command-index c.command-item.result _ _ (omega arith) c.command-item.is
    c.command_shape.ensures
    ∙ c.loop-command.invariant

pub arms_shape-loop-arm-preserved : goal.arms_shape-loop-arm-preserved
arms_shape-loop-arm-preserved t c =
    arms_step c.args.names.now (body_of c.args.position.now) c.args.arms.now c.loop-arm.arm-index c.arm-item.result _ _ _ (omega arith)
    c.arm-item.is c.as_slice.ensures.value c.list_shape.ensures
    ∙ c.loop-arm.invariant

pub command_shape-returns-in-Case : goal.command_shape-returns-in-Case
command_shape-returns-in-Case t c =
    let es = c.args.names.now in
    let at = body_of c.args.position.now in
    both c.args.best.now _ _ (arms_shape es at c.in-Case.arms.items) (list_shape es at c.in-Case.last.commands.items) _
    (c.arms_shape.ensures ∙ ap (λ l. best_of c.args.best.now (arms_shape es at l)) c.as_slice-in-Case.ensures.value)
    (c.list_shape-in-Case.ensures ∙ ap (λ l. best_of c.arms_shape.new.best (list_shape es at l)) c.as_slice-in-Case-2.ensures.value)
    (ap (λ k. command_shape es at k) (ap command_of c.in-Case.is ∙ command_of-case _ _ _ _) ∙ arms_shape-of es at c.in-Case.arms.items c.in-Case.last)
