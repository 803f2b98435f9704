use Rattle.std.proofs.Common.{◌≡◌, ◌++◌}
use Rattle.sap_meaning.specs.Program as program
use Rattle.sap_tags_terms.specs.Code.{world_in}
use Rattle.sap_tags_variables.proofs.OfEntities.{of_first, of_register}
use Rattle.sap_tags_variables.proofs.registers.add_shown_registers.Given as goal

abbrev pub invariant-loop-x : goal.invariant-loop-x
invariant-loop-x l = l.registers.items ≡ l.initial.registers.items ++ of_first l.setting (program.is_register (world_in l.setting)) (of_register l.setting) l.x
