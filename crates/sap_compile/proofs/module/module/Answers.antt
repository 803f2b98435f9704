use Rattle.std.proofs.Common.{subst}
use Rattle.sap_check.specs.Checked.{levels_in, tree_in}
use Rattle.sap_hang.specs.Hang.{IsHangTable}
use Rattle.sap_tree.specs.Designs.{design_of}
use Rattle.sap_tree.specs.declared.design.Design.{Design}
use Rattle.sap_compile.proofs.Texts.{with_text}
use Rattle.sap_compile.proofs.module.module.Goals as goal

pub module_netlist-requires : goal.module_netlist-requires
module_netlist-requires c = subst (λ (d : Design). IsHangTable (design_of d) c.in_ok-hang.hang) c.design.ensures c.in_ok-hang.ensures

pub returns-clause-compiled : goal.returns-clause-compiled
returns-clause-compiled c =
    with_text (levels_in c.args.checked) (tree_in c.args.checked) c.in_ok-netlist.netlist c.in_ok-module.module c.in_ok-netlist.ensures c.in_ok-module.ensures

pub returns-clause-hang : goal.returns-clause-hang
returns-clause-hang c = subst (λ (d : Design). IsHangTable (design_of d) c.in_ok-hang.hang) c.design.ensures c.in_ok-hang.ensures
