use Rattle.std.proofs.Common.{◌≡◌, List, ap, ◌∙◌, map, subst}
use Rattle.sap_maps.specs.Maps.{Name}
use Rattle.sap_net.specs.Prelude.{Net, IsNetlist, value_name, tag_name, shown_among, register_ports, port_widths}
use Rattle.sap_sim.specs.Layout.{ArePlaces}
use Rattle.sap_sim.proofs.Registers.{values_are, tags_are}
use Rattle.sap_sim.proofs.shown.shown_of.Goals as goal
use Rattle.sap_sim.proofs.shown.shown_of.Goals.{In_ok-names}

shown_is : (c : In_ok-names) → c.in_ok-names.names.items ≡ shown_among c.args.tag (port_widths c.args.runner.now.net) (register_ports c.args.runner.now.net.ports)
shown_is c = c.in_ok-names.ensures ∙ ap (λ (n : Net). shown_among c.args.tag (port_widths n) (register_ports n.ports)) c.netlist-netlist.ensures

is_net : (c : In_ok-names) → IsNetlist c.args.runner.now.net
is_net c = subst (λ (m : Net). IsNetlist m) c.netlist-netlist.ensures c.rules.ensures

pub register_places-requires : goal.register_places-requires
register_places-requires c = λ k d l.
    values_are c.args.tag c.args.runner.now.net (is_net (goal.at.register_places-requires c).In_ok-names) c.deref.result.now
    (c.deref.ensures.value ∙ shown_is (goal.at.register_places-requires c).In_ok-names) k d l

pub register_places-requires-2 : goal.register_places-requires-2
register_places-requires-2 c = λ k d l.
    tags_are c.args.tag c.args.runner.now.net (is_net (goal.at.register_places-requires-2 c).In_ok-names) c.deref-2.result.now
    (c.deref-2.ensures.value ∙ shown_is (goal.at.register_places-requires-2 c).In_ok-names) k d l

pub returns-clause-values : goal.returns-clause-values
returns-clause-values c =
    subst (λ (xs : List Name). ArePlaces c.args.runner.now.net (map value_name xs) c.in_ok-values.values.items) c.deref.ensures.value c.in_ok-values.ensures

pub returns-clause-tags : goal.returns-clause-tags
returns-clause-tags c =
    subst (λ (xs : List Name). ArePlaces c.args.runner.now.net (map tag_name xs) c.in_ok-tags.tags.items) c.deref-2.ensures.value c.in_ok-tags.ensures
