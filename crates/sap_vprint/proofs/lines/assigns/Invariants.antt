use Rattle.sap_lemmas.proofs.Common.{◌≡◌, ◌++◌, take, flat_map}
use Rattle.sap_vprint.specs.Printed.{assign_of}
use Rattle.sap_vprint.specs.Text.{item_text}
use Rattle.sap_vprint.proofs.lines.assigns.Given as goal

abbrev pub invariant-loop-wire : goal.invariant-loop-wire
invariant-loop-wire l = l.out.items ≡ l.initial.out.items ++ flat_map (λ w. item_text (assign_of w)) (take l.wire-index l.wires)
