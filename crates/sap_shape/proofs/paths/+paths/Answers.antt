use Rattle.sap_lemmas.proofs.Common.{◌∙◌, ap, sym, arith, on_ok_weaker}
use Rattle.sap_tree.specs.Trees.{arm_block_of, command_of, expression_of}
use Rattle.sap_tree.proofs.Views.{command_of-case}
use Rattle.sap_names.specs.Best.{best_of}
use Rattle.sap_shape.specs.Lists.{written_in}
use Rattle.sap_shape.specs.Walk.{Written, Found, either, found_in_block}
use Rattle.sap_shape.proofs.Sets.{either_fresh}
use Rattle.sap_shape.proofs.Walks.{found_list-past, found_arms-past, past_step, entering_step, again_step, past_arms_step, entering_arms_step, again_arms_step, case_past, case_entering, case_again}
use Rattle.sap_shape.proofs.paths.+paths.Goals as goal

pub list_paths-loop-command-preserved : goal.list_paths-loop-command-preserved
list_paths-loop-command-preserved t c =
    let commands = c.args.commands.now in
    let n = c.loop-command.command-index in
    let command = c.command-item.result in
    let before = written_in c.loop-command.here in
    let one = c.in_ok-command_paths.ensures in
    record {
      past = past_step commands n command before _ (omega arith) c.command-item.is one.past ∙ c.loop-command.invariant.past;
      entering = entering_step commands n command before _ (omega arith) c.command-item.is one.past _ _ one.entering ∙ c.loop-command.invariant.entering;
      second = again_step commands n command before _ (omega arith) c.command-item.is one.past _ _ one.second ∙ c.loop-command.invariant.second;
    }

pub list_paths-returns-clause-entering : goal.list_paths-returns-clause-entering
list_paths-returns-clause-entering t c =
    sym (either_fresh (written_in c.loop-command.entered))
    ∙ ap (λ (x : Found). either (written_in c.loop-command.entered) x.entering)
    (sym (found_list-past (written_in c.loop-command.here) c.args.commands.now c.loop-command.command-index (omega arith)))
    ∙ c.loop-command.invariant.entering

pub arms_paths-loop-arm-preserved : goal.arms_paths-loop-arm-preserved
arms_paths-loop-arm-preserved t c =
    let start = written_in c.args.start.now in
    let arms = c.args.arms.now in
    let n = c.loop-arm.arm-index in
    let arm = c.arm-item.result in
    let one = c.in_ok-beside_paths.ensures in
    let from = ap (λ (x : Written). found_in_block (arm_block_of arm) x) c.in_ok-here.ensures in
    record {
      past = past_arms_step start arms n arm (omega arith) c.arm-item.is _ _ (one.past ∙ ap (λ (x : Found). either (written_in c.loop-arm.past) x.past) from)
          ∙ c.loop-arm.invariant.past;
      entering = entering_arms_step start arms n arm (omega arith) c.arm-item.is _ _
          (one.entering ∙ ap (λ (x : Found). either (written_in c.loop-arm.entered) x.entering) from)
          ∙ c.loop-arm.invariant.entering;
      second = again_arms_step start arms n arm (omega arith) c.arm-item.is _ _ (one.second ∙ ap (λ (x : Found). best_of c.loop-arm.best x.again) from)
          ∙ c.loop-arm.invariant.second;
    }

pub arms_paths-returns-clause-past : goal.arms_paths-returns-clause-past
arms_paths-returns-clause-past t c =
    sym (either_fresh (written_in c.loop-arm.past))
    ∙ ap (λ (x : Found). either (written_in c.loop-arm.past) x.past)
    (sym (found_arms-past (written_in c.args.start.now) c.args.arms.now c.loop-arm.arm-index (omega arith)))
    ∙ c.loop-arm.invariant.past

pub arms_paths-returns-clause-entering : goal.arms_paths-returns-clause-entering
arms_paths-returns-clause-entering t c =
    sym (either_fresh (written_in c.loop-arm.entered))
    ∙ ap (λ (x : Found). either (written_in c.loop-arm.entered) x.entering)
    (sym (found_arms-past (written_in c.args.start.now) c.args.arms.now c.loop-arm.arm-index (omega arith)))
    ∙ c.loop-arm.invariant.entering

pub command_paths-returns-in_ok-arms_paths-in-Case-clause-past : goal.command_paths-returns-in_ok-arms_paths-in-Case-clause-past
command_paths-returns-in_ok-arms_paths-in-Case-clause-past t c =
    on_ok_weaker c.beside_paths-in-Case.result (λ after.
    case_past (command_of c.args.command.now) c.in-Case.field-0 (expression_of c.in-Case.field-1) c.in-Case.arms.items
    c.as_slice-in-Case.result.now c.in-Case.last (written_in c.args.here.now) (written_in c.replace-start.result)
    (ap command_of c.in-Case.is ∙ command_of-case _ _ _ _) c.as_slice-in-Case.ensures.value (ap written_in c.replace-start.ensures.value)
    _ _ _ _ c.new-past.ensures c.in_ok-arms_paths-in-Case.ensures.past (ap written_in c.replace-start.ensures.after) after) c.beside_paths-in-Case.ensures.past

pub command_paths-returns-in_ok-arms_paths-in-Case-clause-entering : goal.command_paths-returns-in_ok-arms_paths-in-Case-clause-entering
command_paths-returns-in_ok-arms_paths-in-Case-clause-entering t c =
    on_ok_weaker c.beside_paths-in-Case.result (λ after.
    case_entering (command_of c.args.command.now) c.in-Case.field-0 (expression_of c.in-Case.field-1) c.in-Case.arms.items
    c.as_slice-in-Case.result.now c.in-Case.last (written_in c.args.here.now) (written_in c.replace-start.result)
    (ap command_of c.in-Case.is ∙ command_of-case _ _ _ _) c.as_slice-in-Case.ensures.value (ap written_in c.replace-start.ensures.value)
    _ _ _ c.in_ok-arms_paths-in-Case.ensures.entering after) c.beside_paths-in-Case.ensures.entering

pub command_paths-returns-in_ok-arms_paths-in-Case-clause-second : goal.command_paths-returns-in_ok-arms_paths-in-Case-clause-second
command_paths-returns-in_ok-arms_paths-in-Case-clause-second t c =
    on_ok_weaker c.beside_paths-in-Case.result (λ after.
    case_again (command_of c.args.command.now) c.in-Case.field-0 (expression_of c.in-Case.field-1) c.in-Case.arms.items
    c.as_slice-in-Case.result.now c.in-Case.last (written_in c.args.here.now) (written_in c.replace-start.result)
    (ap command_of c.in-Case.is ∙ command_of-case _ _ _ _) c.as_slice-in-Case.ensures.value (ap written_in c.replace-start.ensures.value)
    _ _ _ c.in_ok-arms_paths-in-Case.ensures.second after) c.beside_paths-in-Case.ensures.second
