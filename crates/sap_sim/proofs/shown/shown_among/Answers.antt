use Rattle.std.proofs.Common.{List, sym, ap, ◌∙◌, ◌++◌}
use Rattle.sap_maps.specs.Maps.{Name}
use Rattle.sap_net.specs.Prelude.{value_of, port_widths, shown_by}
use Rattle.sap_sim.proofs.Registers.{shown_more}
use Rattle.sap_sim.proofs.shown.shown_among.Goals as goal

pub loop-name-preserved : goal.loop-name-preserved
loop-name-preserved c = λ n rules f g.
    c.in_ok-push_shown.ensures n rules f g
    ∙ ap (λ (ys : List Name). ys ++ shown_by c.args.tag (port_widths n) (value_of c.name-item.result)) (c.loop-name.invariant n rules f g)
    ∙ sym (shown_more c.args.tag (port_widths n) c.args.names.now c.loop-name.name-index c.name-item.result c.loop-name-test.true c.name-item.is)
