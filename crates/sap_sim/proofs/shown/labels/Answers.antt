use Rattle.std.proofs.Common.{List, ap, ◌∙◌}
use Rattle.sap_net.specs.Shown.{register_ports}
use Rattle.sap_net.specs.declared.parts.Port.{Port}
use Rattle.sap_sim.proofs.shown.labels.Goals as goal

pub shown_labels-requires : goal.shown_labels-requires
shown_labels-requires c = c.deref.ensures.value ∙ c.in_ok-registers.ensures ∙ ap (λ (ps : List Port). register_ports ps) c.ports.ensures
