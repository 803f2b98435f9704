use Rattle.std.proofs.Common.{◌≡◌, ◌++◌}
use Rattle.sap_tags_variables.proofs.OfEntities.{has_children, of_first, of_inner}
use Rattle.sap_tags_variables.proofs.wires.add_inner_wires.Given as goal

abbrev pub invariant-loop-state : goal.invariant-loop-state
invariant-loop-state l = l.wires.items ≡ l.initial.wires.items ++ of_first l.setting (has_children l.setting) (of_inner l.setting) l.state
