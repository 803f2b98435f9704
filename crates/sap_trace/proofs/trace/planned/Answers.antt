use Rattle.std.proofs.Common.{ℕ, length, sym, subst}
use Rattle.sap_net.specs.Net.{Net}
use Rattle.sap_check.specs.Checked.{levels_in, tree_in}
use Rattle.sap_check.specs.Sites.{sites_of}
use Rattle.sap_trace.specs.Seen.{AreReadable, AreWires}
use Rattle.sap_trace.proofs.SiteWires.{sites_readable}
use Rattle.sap_trace.proofs.Designs.{site_wires}
use Rattle.sap_trace.proofs.trace.planned.Goals as goal

pub wires_of-requires : goal.wires_of-requires
wires_of-requires c =
    let ls = levels_in c.args.checked.now in
    let d = tree_in c.args.checked.now in
    subst (λ (n : Net). AreReadable n c.site_count.result) (sym c.in_ok-runner.ensures.netlist)
    (subst (λ (k : ℕ). AreReadable c.args.netlist k) (sym c.site_count.ensures)
    (sites_readable ls d c.args.netlist c.rules.ensures (site_wires ls d c.args.netlist c.requires.stands)))

pub returns-clause-wires : goal.returns-clause-wires
returns-clause-wires c =
    subst (λ (n : Net). AreWires n (length (sites_of (tree_in c.args.checked.now))) c.in_ok-wires.wires) c.in_ok-runner.ensures.netlist
    (subst (λ (k : ℕ). AreWires c.in_ok-runner.runner.net k c.in_ok-wires.wires) c.site_count.ensures c.in_ok-wires.ensures)
