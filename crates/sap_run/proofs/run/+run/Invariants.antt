use Rattle.std.proofs.Common.{◌≡◌, ◌+◌, drop}
use Rattle.sap_store.specs.Code.{store_in, world_in}
use Rattle.sap_store.specs.Kept.{Ready}
use Rattle.sap_run.specs.Runs.{marked, block_run}
use Rattle.sap_run.proofs.Weights.{commands_weight, command_weight, arms_weight, states_weight, state_weight}
use Rattle.sap_run.proofs.run.+run.Given as goal

abbrev pub invariant-commands-loop-one : goal.invariant-commands-loop-one
invariant-commands-loop-one l = record {
  store : (block_run l.environment l.at (drop l.one-index l.list) l.context (store_in l.environment l.store)).store
      ≡ (block_run l.environment l.at l.list l.context (store_in l.environment l.initial.store)).store;
  marks : marked (block_run l.environment l.at (drop l.one-index l.list) l.context (store_in l.environment l.store)).refused l.marks
      ≡ marked (block_run l.environment l.at l.list l.context (store_in l.environment l.initial.store)).refused l.initial.marks;
  ready : Ready (world_in l.environment) l.store;
}

abbrev pub decreases-commands : goal.decreases-commands
decreases-commands l = states_weight l.at.now.children.now + commands_weight l.list.now

abbrev pub decreases-command : goal.decreases-command
decreases-command l = states_weight l.at.now.children.now + command_weight l.one.now

abbrev pub decreases-attempt : goal.decreases-attempt
decreases-attempt l = states_weight l.at.now.children.now + commands_weight l.accepted.now + commands_weight l.refused.now + 2

abbrev pub decreases-take : goal.decreases-take
decreases-take l = states_weight l.here.now.at.now.children.now + 1

abbrev pub decreases-choose : goal.decreases-choose
decreases-choose l = states_weight l.at.now.children.now + arms_weight l.arms.now l.last.now + 1

abbrev pub decreases-select : goal.decreases-select
decreases-select l = states_weight l.at.now.children.now + commands_weight l.yes.now + commands_weight l.no.now + 1

abbrev pub decreases-enter : goal.decreases-enter
decreases-enter l = states_weight l.children.now

abbrev pub decreases-body : goal.decreases-body
decreases-body l = state_weight l.state.now
