use Rattle.std.proofs.Common.{◌≡◌, ◌++◌, drop}
use Rattle.sap_check.specs.Lists.{group_sites}
use Rattle.sap_check.proofs.sites.+states.Given as goal

-- with those of what is left
abbrev pub invariant-add_states-loop-state : goal.invariant-add_states-loop-state
invariant-add_states-loop-state l = l.sites.items ++ group_sites l.names (drop l.state-index l.states) ≡ l.initial.sites.items ++ group_sites l.names l.states
