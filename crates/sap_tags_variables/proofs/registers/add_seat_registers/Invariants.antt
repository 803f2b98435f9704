use Rattle.std.proofs.Common.{◌≡◌, ◌++◌}
use Rattle.sap_tags_variables.proofs.OfEntities.{has_children}
use Rattle.sap_tags_variables.proofs.OfEntities.{of_first, of_parent}
use Rattle.sap_tags_variables.proofs.registers.add_seat_registers.Given as goal

abbrev pub invariant-loop-p : goal.invariant-loop-p
invariant-loop-p l = l.registers.items ≡ l.initial.registers.items ++ of_first l.setting (has_children l.setting) (of_parent l.setting) l.p
