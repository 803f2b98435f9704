use Rattle.std.proofs.Common.{◌≡◌, ◌++◌}
use Rattle.sap_tagged.specs.States.{saved}
use Rattle.sap_tags_terms.specs.Code.{world_in}
use Rattle.sap_tags_variables.proofs.OfEntities.{of_first, of_saved}
use Rattle.sap_tags_variables.proofs.wires.add_first_wires.Given as goal

abbrev pub invariant-loop-m : goal.invariant-loop-m
invariant-loop-m l = l.wires.items ≡ l.initial.wires.items ++ of_first l.setting (saved (world_in l.setting)) (of_saved l.setting) l.m
