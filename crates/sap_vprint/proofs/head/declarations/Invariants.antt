use Rattle.sap_lemmas.proofs.Common.{◌≡◌, ◌++◌, take, flat_map}
use Rattle.sap_maps.specs.Scope.{find}
use Rattle.sap_vprint.specs.Printed.{entities, declared_items}
use Rattle.sap_vprint.specs.Text.{items_text}
use Rattle.sap_vprint.proofs.head.declarations.Given as goal

abbrev pub invariant-loop-name : goal.invariant-loop-name
invariant-loop-name l = l.out.items ≡ l.initial.out.items ++ flat_map (λ x. items_text (declared_items x (find (entities l.netlist) x))) (take l.name-index l.names)
