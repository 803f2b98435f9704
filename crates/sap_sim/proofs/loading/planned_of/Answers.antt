use Rattle.std.proofs.Common.{ℕ, map, sym, ap, ◌∙◌}
use Rattle.sap_net.specs.Prelude.{Net, register_ports, port_widths, shown_among}
use Rattle.sap_sim.specs.Prelude.{tag_width, source_of}
use Rattle.sap_sim.proofs.loading.planned_of.Goals as goal

pub returns-clause-plan : goal.returns-clause-plan
returns-clause-plan c =
    let ls = c.args.lattice.now in
    let m = c.in_ok-runner.runner.net in
    record {
      sources = c.requires ∙ ap (λ (n : Net). map (source_of (tag_width ls) n.inputs) n.inputs) (sym c.in_ok-runner.ensures.netlist);
      names = c.in_ok-shown.ensures.names ∙ ap (λ (tag : ℕ). shown_among tag (port_widths m) (register_ports m.ports)) c.width.ensures;
      values = c.in_ok-shown.ensures.values;
      tags = c.in_ok-shown.ensures.tags;
      levels = c.in_ok-levels.ensures;
    }
