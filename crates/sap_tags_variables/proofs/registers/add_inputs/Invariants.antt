use Rattle.std.proofs.Common.{◌≡◌, ◌++◌}
use Rattle.sap_meaning.specs.Program as program
use Rattle.sap_tags_terms.specs.Code.{world_in}
use Rattle.sap_tags_variables.proofs.OfEntities.{of_first, of_input}
use Rattle.sap_tags_variables.proofs.registers.add_inputs.Given as goal

abbrev pub invariant-loop-x : goal.invariant-loop-x
invariant-loop-x l = l.inputs.items ≡ l.initial.inputs.items ++ of_first l.setting (program.is_input (world_in l.setting)) (of_input l.setting) l.x
