use Rattle.sap_lemmas.proofs.Common.{◌≡◌, map, range_with_len}
use Rattle.sap_tree.specs.Trees.{state_of}
use Rattle.sap_gen.specs.Design.{state}
use Rattle.sap_gen.proofs.design.states.Given as goal

abbrev pub invariant-loop-number : goal.invariant-loop-number
invariant-loop-number l = map state_of l.states.items ≡ map (state l.size.registers l.size.states) (range_with_len 0 l.number)
