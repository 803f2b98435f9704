use Rattle.std.proofs.Common.{◌++◌, ℕ, List, Some, length, sym, ap, ◌∙◌, subst}
use Rattle.sap_net.specs.Prelude.{Net, IsNetlist, observed}
use Rattle.sap_check.specs.Checked.{levels_in, tree_in}
use Rattle.sap_check.specs.Sites.{sites_of}
use Rattle.sap_trace.specs.Seen.{AreReadable, AreWires, seen_lines}
use Rattle.sap_trace.proofs.SiteWires.{sites_readable}
use Rattle.sap_trace.proofs.Seen.{lines_told}
use Rattle.sap_trace.proofs.refusals.suppressed.Goals as goal

pub wires_of-requires : goal.wires_of-requires
wires_of-requires c =
    let net : IsNetlist c.args.runner.now.net = subst (λ (n : Net). IsNetlist n) c.netlist.ensures c.rules.ensures in
    subst (λ (k : ℕ). AreReadable c.args.runner.now.net k) (sym c.site_count.ensures)
    (sites_readable (levels_in c.args.checked.now) (tree_in c.args.checked.now) c.args.runner.now.net net c.requires.shows.1.wires)

pub push_refused-requires : goal.push_refused-requires
push_refused-requires c = subst (λ (k : ℕ). AreWires c.args.runner.now.net k c.in_ok-wires.wires) c.site_count.ensures c.in_ok-wires.ensures

pub returns : goal.returns
returns c = record {
  lines = λ rs shown.
      let ls = levels_in c.args.checked.now in
      let d = tree_in c.args.checked.now in
      c.new.ensures ∙ c.in_ok-push_refused.ensures.text (Some shown.cycle) shown.shows
      ∙ ap (λ (xs : List ℕ). xs ++ seen_lines ls d c.args.cycle 1 (length (sites_of d)) (observed c.args.runner.now.net shown.cycle)) c.new-out.ensures.items
      ∙ sym (lines_told ls d c.known.ensures.codes c.known.ensures.some c.args.cycle (observed c.args.runner.now.net shown.cycle)
      c.known.ensures.numbering shown.state rs shown.stands shown.in_order);
}
