use Rattle.sap_lemmas.proofs.Common.{◌≡◌, map, range_with_len}
use Rattle.sap_tree.specs.Trees.{command_of}
use Rattle.sap_gen.specs.Design.{assignment}
use Rattle.sap_gen.proofs.design.assignments.Given as goal

abbrev pub invariant-loop-register : goal.invariant-loop-register
invariant-loop-register l = map command_of l.commands.items ≡ map (assignment l.size.registers l.state) (range_with_len 0 l.register)
