use Rattle.sap_lemmas.proofs.Common.{◌≡◌, ◌++◌, take, flat_map}
use Rattle.sap_vprint.specs.Printed.{printed_port}
use Rattle.sap_vprint.specs.Text.{port_text}
use Rattle.sap_vprint.proofs.head.ports.Given as goal

abbrev pub invariant-loop-p : goal.invariant-loop-p
invariant-loop-p l = l.out.items ≡ l.initial.out.items ++ flat_map (λ p. port_text (printed_port l.netlist p)) (take l.p-index l.ports)
