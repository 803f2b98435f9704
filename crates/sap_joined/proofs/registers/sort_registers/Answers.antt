use Rattle.sap_lemmas.proofs.Common.{List, subst, sym, All}
use Rattle.sap_net.specs.declared.parts.Register.{Register}
use Rattle.sap_joined.specs.Spelled.{RegisterSpelled}
use Rattle.sap_joined.proofs.Spelling.{all_registers_spelled}
use Rattle.sap_joined.proofs.registers.sort_registers.Goals as goal

pub add_registers_of-requires : goal.add_registers_of-requires
add_registers_of-requires c = subst (λ (xs : List Register). All RegisterSpelled xs) (sym c.registers.ensures)
    (all_registers_spelled c.part-item.result.netlist.now c.rules.ensures)
