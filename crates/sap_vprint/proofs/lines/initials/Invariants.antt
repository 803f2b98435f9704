use Rattle.sap_lemmas.proofs.Common.{◌≡◌, ◌++◌, take, flat_map}
use Rattle.sap_vprint.specs.Printed.{initial_of}
use Rattle.sap_vprint.specs.Text.{item_text}
use Rattle.sap_vprint.proofs.lines.initials.Given as goal

abbrev pub invariant-loop-register : goal.invariant-loop-register
invariant-loop-register l = l.out.items ≡ l.initial.out.items ++ flat_map (λ r. item_text (initial_of r)) (take l.register-index l.registers)
