use Rattle.std.proofs.Common.{◌≡◌, ◌++◌, List, map, filter, ap, ap₂, ◌∙◌, rules}
use Rattle.sap_maps.specs.Maps.{Name}
use Rattle.sap_net.specs.PortNames.{top_name}
use Rattle.sap_net.specs.declared.parts.Wire.{Wire}
use Rattle.sap_net.specs.declared.parts.Register.{Register}
use Rattle.sap_net.specs.declared.parts.Memory.{Memory}
use Rattle.sap_share.specs.Sets.{holds}
use Rattle.sap_build.specs.Copies.{copy_wire, copy_memory}
use Rattle.sap_joined.specs.Joined as spec
use Rattle.sap_joined.specs.Seen as seen
use Rattle.sap_joined.proofs.Assembled.{whole_is}
use Rattle.sap_joined.proofs.whole.join.Goals as goal

pub returns : goal.returns
returns c =
    let ps = map seen.named_net c.args.parts.now in
    let fs = map seen.feed c.args.feeds.now in
    let fed = c.in_ok-fed.fed in
    let shown = c.in_ok-shown.shown in
    let ports = c.in_ok-ports.ports.items in
    let inputs = c.in_ok-inputs.inputs.items in
    let wires = c.add_wires.new.made.items in
    let first = c.in_ok-registers.registers.shown.items in
    let last = c.in_ok-registers.registers.hidden.items in
    let registers = c.in_ok-registers-2.registers.items in
    let memories = c.in_ok-memories.memories.items in
    let names = c.in_ok-names.names.items in
    let copies = spec.copies_of (λ n. n.wires) copy_wire ps in
    let listed = λ (ws : List Wire) (rs : List Register) (ms : List Memory).
    ((filter (spec.is_hidden (holds shown)) (map (λ (w : Wire). w.name) ws) ++ map (λ (r : Register). r.name) rs)
    ++ filter (spec.is_hidden (holds shown)) (map (λ (m : Memory). m.name) ms)) in
    let fed_is : fed ≡ spec.fed_names fs = search rules in
    let ports_are : ports ≡ spec.ports_by (holds fed) (spec.part_ports ps) = search rules in
    let inputs_are : inputs ≡ filter (spec.is_free_input (holds fed)) (spec.part_inputs ps) = search rules in
    let shown_by : shown ≡ spec.port_names c.as_slice.result.now = search rules in
    let shown_is : shown ≡ spec.port_names ports = shown_by ∙ ap spec.port_names c.as_slice.ensures.value in
    let fed_wires : c.in_ok-wires.wires.items ≡ spec.feed_wires c.args.tag fs = search rules in
    let all_wires : wires ≡ c.in_ok-wires.wires.items ++ copies = c.in_ok-add_wires.ensures {u = tt} in
    let first_is : first ≡ filter (spec.is_shown_register (holds shown)) (spec.part_registers ps) = search rules in
    let last_is : last ≡ filter (spec.is_hidden_register (holds shown)) (spec.part_registers ps) = search rules in
    let registers_are : registers ≡ first ++ last = search rules in
    let memories_are : memories ≡ spec.copies_of (λ n. n.memories) copy_memory ps = search rules in
    let names_by : names ≡ shown ++ c.in_ok-hidden.hidden.items = search rules in
    let hidden_by : c.in_ok-hidden.hidden.items ≡ listed c.as_slice-2.result.now c.as_slice-3.result.now c.as_slice-4.result.now = search rules in
    let top : c.new-module_name.result ≡ top_name = search rules in
    whole_is c.args.tag ps fs fed shown c.new-module_name.result names ports inputs wires first last registers memories fed_is ports_are inputs_are shown_is
    (all_wires ∙ ap (λ (ws : List Wire). ws ++ copies) fed_wires) first_is last_is registers_are memories_are
    (names_by
    ∙ ap₂ (λ (xs ys : List Name). xs ++ ys) shown_is hidden_by
    ∙ ap₂ (λ (ws : List Wire) (rs : List Register). spec.port_names ports ++ listed ws rs c.as_slice-4.result.now) c.as_slice-2.ensures.value c.as_slice-3.ensures.value
    ∙ ap (λ (ms : List Memory). spec.port_names ports ++ listed wires last ms) c.as_slice-4.ensures.value)
    top
