use Rattle.std.proofs.Common.{◌∙◌, arith}
use Rattle.sap_check.specs.Lists.{surroundings_of}
use Rattle.sap_check.proofs.SiteLists.{arms_end, arms_step, list_end, sites_step}
use Rattle.sap_check.proofs.sites.+body.Goals as goal

pub add_list-loop-command-preserved : goal.add_list-loop-command-preserved
add_list-loop-command-preserved t c =
    sites_step (surroundings_of c.args.names.now c.args.body.now) c.args.commands.now c.loop-command.command-index c.command-item.result _ _ (omega arith) c.command-item.is
    c.in_ok-add_command.ensures
    ∙ c.loop-command.invariant

pub add_list-returns : goal.add_list-returns
add_list-returns t c =
    list_end (surroundings_of c.args.names.now c.args.body.now) c.args.commands.now c.loop-command.command-index _ _ (omega arith) c.loop-command.invariant

pub add_arms-loop-arm-preserved : goal.add_arms-loop-arm-preserved
add_arms-loop-arm-preserved t c =
    arms_step (surroundings_of c.args.names.now c.args.body.now) c.args.arms.now c.loop-arm.arm-index c.arm-item.result _ _ _ (omega arith)
    c.arm-item.is c.as_slice.ensures.value c.in_ok-add_list.ensures
    ∙ c.loop-arm.invariant

pub add_arms-returns : goal.add_arms-returns
add_arms-returns t c = arms_end (surroundings_of c.args.names.now c.args.body.now) c.args.arms.now c.loop-arm.arm-index _ _ (omega arith) c.loop-arm.invariant
