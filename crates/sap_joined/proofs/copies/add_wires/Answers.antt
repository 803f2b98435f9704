use Rattle.sap_lemmas.proofs.Common.{List, subst, sym, All}
use Rattle.sap_net.specs.declared.parts.Wire.{Wire}
use Rattle.sap_joined.specs.Spelled.{WireSpelled}
use Rattle.sap_joined.proofs.Spelling.{all_wires_spelled}
use Rattle.sap_joined.proofs.copies.add_wires.Goals as goal

pub add_wires_of-requires : goal.add_wires_of-requires
add_wires_of-requires c = subst (λ (xs : List Wire). All WireSpelled xs) (sym c.wires.ensures) (all_wires_spelled c.part-item.result.netlist.now c.rules.ensures)
