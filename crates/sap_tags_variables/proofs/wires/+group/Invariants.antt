use Rattle.std.proofs.Common.{◌≡◌, ◌+◌, ◌*◌, ◌++◌, drop}
use Rattle.sap_program.specs.Views.{group_of, state_of}
use Rattle.sap_tags_terms.specs.Code.{entities_in, named_in, tag_width}
use Rattle.sap_tagged.specs.Prelude.{wires_group, wires_state, group_wires}
use Rattle.sap_tags_variables.proofs.wires.+group.Given as goal

-- with those of what is left
abbrev pub invariant-add_group-loop-state : goal.invariant-add_group-loop-state
invariant-add_group-loop-state l = record {
  wires :
      l.wires.items ++ group_wires (named_in l.setting) (tag_width l.setting) l.next (group_of (entities_in l.setting) (drop l.state-index l.group))
      ≡ l.initial.wires.items ++ group_wires (named_in l.setting) (tag_width l.setting) l.k (group_of (entities_in l.setting) l.group);
  count : l.next + wires_group (group_of (entities_in l.setting) (drop l.state-index l.group)) ≡ l.k + wires_group (group_of (entities_in l.setting) l.group);
}

abbrev pub decreases-add_state : goal.decreases-add_state
decreases-add_state l = 2 * wires_state (state_of (entities_in l.setting.now) l.state.now)

abbrev pub decreases-add_group : goal.decreases-add_group
decreases-add_group l = 2 * wires_group (group_of (entities_in l.setting.now) l.group.now) + 1
