use Rattle.std.proofs.Common.{rules, sym, ◌∙◌}
use Rattle.sap_net.specs.PortNames.{tag_name}
use Rattle.sap_sim.proofs.Registers.{port_wide}
use Rattle.sap_sim.proofs.shown.has_tag.Goals as goal

pub returns : goal.returns
returns c = λ n net f g. search (rules, f, g) ∙ sym (port_wide c.args.tag n net (tag_name c.args.x.now))
