use Rattle.std.proofs.Common.{map, ap, sym, ◌∙◌, subst}
use Rattle.sap_net.specs.Prelude.{Net, net_of, IsNetlist}
use Rattle.sap_joined.specs.Seen as seen
use Rattle.sap_linker.proofs.Joining.{is_netlist, joined_as_given}
use Rattle.sap_linker.proofs.module.joined_net.Goals as goal

pub new-requires : goal.new-requires
new-requires c =
    let ls = c.args.lattice.now in
    let parts = c.args.parts.now in
    let wires = c.args.wires.now in
    let made = joined_as_given ls parts wires c.requires.parts c.requires.linked c.requires.names c.joined_is_linked.ensures c.width.result
    (map seen.named_net c.as_slice.result.now) (map seen.feed c.as_slice-2.result.now) (net_of c.in_ok-whole.whole) c.in_ok-whole.ensures c.width.ensures
    (ap (map seen.named_net) c.as_slice.ensures.value ∙ c.in_ok-nets.ensures) (ap (map seen.feed) c.as_slice-2.ensures.value ∙ c.in_ok-feeds.ensures) in
    subst (λ (n : Net). IsNetlist n) (sym made)
    (is_netlist ls parts wires c.requires.parts c.requires.linked c.lawful.ensures.codes c.requires.names c.linked_net_is_netlist.ensures.designs)

pub returns : goal.returns
returns c =
    let made = joined_as_given c.args.lattice.now c.args.parts.now c.args.wires.now c.requires.parts c.requires.linked c.requires.names c.joined_is_linked.ensures c.width.result
    (map seen.named_net c.as_slice.result.now) (map seen.feed c.as_slice-2.result.now) (net_of c.in_ok-whole.whole) c.in_ok-whole.ensures c.width.ensures
    (ap (map seen.named_net) c.as_slice.ensures.value ∙ c.in_ok-nets.ensures) (ap (map seen.feed) c.as_slice-2.ensures.value ∙ c.in_ok-feeds.ensures) in
    c.new.ensures ∙ made
