use Rattle.std.proofs.Common.{◌≡◌, ◌++◌}
use Rattle.sap_meaning.specs.Program as program
use Rattle.sap_tags_terms.specs.Code.{world_in}
use Rattle.sap_tags_variables.proofs.OfEntities.{of_first, of_memory}
use Rattle.sap_tags_variables.proofs.memories.add_memories.Given as goal

abbrev pub invariant-loop-m : goal.invariant-loop-m
invariant-loop-m l = l.memories.items ≡ l.initial.memories.items ++ of_first l.setting (program.is_memory (world_in l.setting)) (of_memory l.setting) l.m
