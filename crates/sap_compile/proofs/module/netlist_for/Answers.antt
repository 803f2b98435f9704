use Rattle.sap_lemmas.proofs.Common.{arith, IfOk-weaker}
use Rattle.sap_check.specs.Checked.{levels_in, tree_in}
use Rattle.sap_compile.proofs.module.netlist_for.Goals as goal

pub returns-clause-stands : goal.returns-clause-stands
returns-clause-stands c =
    IfOk-weaker c.netlist.result _ _ (λ n same. same (levels_in c.args.checked.now) (tree_in c.args.checked.now) c.in_ok-plain.ensures.stands) c.netlist.ensures.stands

pub returns-clause-starts : goal.returns-clause-starts
returns-clause-starts c =
    IfOk-weaker c.netlist.result _ _ (λ n same. same (levels_in c.args.checked.now) (tree_in c.args.checked.now) c.in_ok-plain.ensures.starts) c.netlist.ensures.starts

pub returns-clause-small : goal.returns-clause-small
returns-clause-small c =
    let p = c.in_ok-plain.ensures.small in
    IfOk-weaker c.netlist.result _ _ (λ n few. omega (arith, p, few)) c.netlist.ensures.small
