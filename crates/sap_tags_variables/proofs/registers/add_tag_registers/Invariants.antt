use Rattle.std.proofs.Common.{◌≡◌, ◌++◌}
use Rattle.sap_tagged.specs.Plain.{has_own_tag}
use Rattle.sap_tags_terms.specs.Code.{named_in}
use Rattle.sap_tags_variables.proofs.OfEntities.{of_first, of_tagged}
use Rattle.sap_tags_variables.proofs.registers.add_tag_registers.Given as goal

abbrev pub invariant-loop-x : goal.invariant-loop-x
invariant-loop-x l = l.registers.items ≡ l.initial.registers.items ++ of_first l.setting (has_own_tag (named_in l.setting)) (of_tagged l.setting) l.x
