use Rattle.sap_lemmas.proofs.Common.{◌≡◌, List, ap, ◌∙◌, subst, sym, true, IfOk-weaker, All}
use Rattle.sap_maps.specs.Maps.{Name}
use Rattle.sap_net.specs.Prelude.{shown_among, register_ports, port_widths, Indexes, is_name}
use Rattle.sap_net.specs.declared.parts.Register.{Register}
use Rattle.sap_sim.specs.Prelude.{register_widths, Finds}
use Rattle.sap_sim.proofs.Registers.{ports_named}
use Rattle.sap_sim.proofs.shown.shown_labels.Goals as goal

pub shown_among-requires : goal.shown_among-requires
shown_among-requires c =
    subst (λ (ns : List Name). All (λ (x : Name). is_name x ≡ true) ns) (sym c.requires) (ports_named c.args.netlist.now c.rules.ensures)

pub returns : goal.returns
returns c =
    let n = c.args.netlist.now in
    let fp : Indexes c.in_ok-ports.ports (register_ports c.args.netlist.now.ports) =
    subst (λ (ns : List Name). Indexes c.in_ok-ports.ports ns) c.requires c.in_ok-ports.ensures in
    let fw : Finds c.in_ok-widths.widths (register_widths c.args.netlist.now.registers) =
    subst (λ (rs : List Register). Finds c.in_ok-widths.widths (register_widths rs)) c.registers.ensures c.in_ok-widths.ensures in
    IfOk-weaker c.shown_among.result _ _ (λ xs h. h n c.rules.ensures fp fw ∙ ap (shown_among c.args.tag (port_widths n)) c.requires) c.shown_among.ensures
