use Rattle.std.proofs.Common.{subst}
use Rattle.sap_hang.specs.Hang.{IsHangTable}
use Rattle.sap_tree.specs.Designs.{design_of}
use Rattle.sap_tree.specs.declared.design.Design.{Design}
use Rattle.sap_gen.proofs.text.machine_of.Goals as goal

pub new-requires : goal.new-requires
new-requires c = subst (λ (d : Design). IsHangTable (design_of d) c.in_ok-table.table) c.design.ensures c.in_ok-table.ensures
