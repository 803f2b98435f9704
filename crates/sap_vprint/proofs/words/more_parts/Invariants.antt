use Rattle.sap_lemmas.proofs.Common.{◌≡◌, ◌++◌, take, flat_map}
use Rattle.sap_vprint.specs.Printed.{operand_of}
use Rattle.sap_vprint.specs.Text.{text_of, part_pieces}
use Rattle.sap_vprint.proofs.words.more_parts.Given as goal

abbrev pub invariant-loop-x : goal.invariant-loop-x
invariant-loop-x l = l.out.items ≡ l.initial.out.items ++ flat_map (λ x. text_of (part_pieces (operand_of x))) (take l.x-index l.operands)
