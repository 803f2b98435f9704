use Rattle.sap_lemmas.proofs.Common.{subst, IfOk-weaker}
use Rattle.sap_check.specs.Checked.{levels_in, tree_in}
use Rattle.sap_hang.specs.Hang.{IsHangTable}
use Rattle.sap_tree.specs.Designs.{design_of}
use Rattle.sap_tree.specs.declared.design.Design.{Design}
use Rattle.sap_compile.specs.Compiles.{IsNetlistFor}
use Rattle.sap_compile.proofs.module.design_netlist.Goals as goal

pub module_netlist-requires : goal.module_netlist-requires
module_netlist-requires c = subst (λ (d : Design). IsHangTable (design_of d) c.in_ok-hang.hang) c.design.ensures c.in_ok-hang.ensures

pub returns-clause-stands : goal.returns-clause-stands
returns-clause-stands c =
    IfOk-weaker c.module_netlist.result (IsNetlistFor (levels_in c.args.checked.now) (tree_in c.args.checked.now)) _ (λ n m. m.1.stands) c.module_netlist.ensures

pub returns-clause-starts : goal.returns-clause-starts
returns-clause-starts c =
    IfOk-weaker c.module_netlist.result (IsNetlistFor (levels_in c.args.checked.now) (tree_in c.args.checked.now)) _ (λ n m. m.1.starts) c.module_netlist.ensures

pub returns-clause-shared : goal.returns-clause-shared
returns-clause-shared c =
    IfOk-weaker c.module_netlist.result (IsNetlistFor (levels_in c.args.checked.now) (tree_in c.args.checked.now)) _ (λ n m. m.1.tidy.shared) c.module_netlist.ensures

pub returns-clause-folded : goal.returns-clause-folded
returns-clause-folded c =
    IfOk-weaker c.module_netlist.result (IsNetlistFor (levels_in c.args.checked.now) (tree_in c.args.checked.now)) _ (λ n m. m.1.tidy.folded) c.module_netlist.ensures

pub returns-clause-read : goal.returns-clause-read
returns-clause-read c =
    IfOk-weaker c.module_netlist.result (IsNetlistFor (levels_in c.args.checked.now) (tree_in c.args.checked.now)) _ (λ n m. m.1.tidy.read) c.module_netlist.ensures

pub returns-clause-copies : goal.returns-clause-copies
returns-clause-copies c =
    IfOk-weaker c.module_netlist.result (IsNetlistFor (levels_in c.args.checked.now) (tree_in c.args.checked.now)) _ (λ n m. m.1.tidy.copies) c.module_netlist.ensures

pub returns-clause-small : goal.returns-clause-small
returns-clause-small c =
    IfOk-weaker c.module_netlist.result (IsNetlistFor (levels_in c.args.checked.now) (tree_in c.args.checked.now)) _ (λ n m. m.1.small) c.module_netlist.ensures
