-- The netlist of a system keeps the rules of netlists.
use Rattle.sap_lemmas.proofs.Common.{◌≡◌, ℕ, Bool, true, false, not, ◌<◌, List, [], ◌∷◌, ◌++◌, map, filter, length, take, refl, sym, ◌∙◌, ap, ap₂, inl, inr, AllByRecursion, and_from, and_parts, cases_Bool, append-nil, iff_same, map_of_all}
use Rattle.sap_maps.specs.Maps.{Name}
use Rattle.sap_lattice.specs.Codes.{Codes}
use Rattle.sap_net.specs.Prelude.{is_among, is_name, AreDistinct, Net, input_names, is_input, memory_names, register_names, wire_names, IsNetlist, PortShows}
use Rattle.sap_net.specs.declared.parts.Port.{Port}
use Rattle.sap_net.proofs.NamesLemmas.{among_behind, among_front, distinct_both, each_among, filter_among, filter_distinct}
use Rattle.sap_interface.specs.Interface.{Shown}
use Rattle.sap_build.specs.Laws.{CopiesAreNetlists}
use Rattle.sap_link.specs.Systems.{WiresFit}
use Rattle.sap_linked.specs.Prelude.{NamedSystem, part_at, system_of, NamesFit, IsNetOf, input_ports, register_ports, refusal_ports, fed_inputs, linked_ports, held_ports, linked_net, shown_names, LinkedNetIsNetlist}
use Rattle.sap_linked.proofs.Assigning.{assigns, nexts, top_named, writes}
use Rattle.sap_linked.proofs.InOrder.{memories_in_order, registers_in_order, same_registers, shown_is, whole_registers}
use Rattle.sap_linked.proofs.Inputs.{inputs_among, of_both, of_ports}
use Rattle.sap_linked.proofs.Naming.{all_named}
use Rattle.sap_linked.proofs.Order.{inputs_in_order}
use Rattle.sap_linked.proofs.Parted.{absent, either}
use Rattle.sap_linked.proofs.Ports.{names_in}
use Rattle.sap_linked.proofs.Showing.{all_inner, all_inputs, all_memories, all_registers, all_wires, fed_hold, held_hold, inner_distinct, inputs_hold, memory_inner, register_inner, registers_hold, shown_are, shown_distinct, shown_feeds, shown_inputs, shown_registers, shown_sites, sites_hold, wire_inner}
use Rattle.sap_linked.proofs.Values.{whole_memories, whole_values}

-- ---- ports

abbrev port_of : Shown → Port
port_of p = record { name = p.0; kind = p.1 }

ports_in_front : (shown : List Shown) (rest : List Name) → map (λ (p : Port). p.name) (map port_of shown) ≡ take (length (map port_of shown)) (names_in shown ++ rest)
ports_in_front [] rest = refl
ports_in_front (p ∷ ps) rest = ap (λ (ns : List Name). p.0 ∷ ns) (ports_in_front ps rest)

same_ports : (shown : List Shown) → map (λ (p : Port). (p.name, p.kind)) (map port_of shown) ≡ shown
same_ports [] = refl
same_ports (p ∷ ps) = ap (λ (rest : List Shown). p ∷ rest) (same_ports ps)

all_are_inputs : (shown : List Shown) → AllByRecursion (λ (p : Shown). is_input p.1 ≡ true) shown → inputs_among shown ≡ names_in shown
all_are_inputs [] a = refl
all_are_inputs (p ∷ ps) a = rw a.0 (ap (λ (ns : List Name). p.0 ∷ ns) (all_are_inputs ps a.1))

none_are_inputs : (shown : List Shown) → AllByRecursion (λ (p : Shown). is_input p.1 ≡ false) shown → inputs_among shown ≡ []
none_are_inputs [] a = refl
none_are_inputs (p ∷ ps) a = rw a.0 (none_are_inputs ps a.1)

hidden_shown : (b : Bool) → not b ≡ true → b ≡ true → ⊥
hidden_shown b h k = cc

abbrev both : List Name → List Name → List Name
both xs ys = xs ++ ys

module _ (copies_keep : CopiesAreNetlists) (s : NamedSystem) (nets : ℕ → Net) (codes : Codes s.order) (fit : NamesFit s) (good : WiresFit (system_of s))
    (each : (i : ℕ) → i < length s.parts → IsNetOf s.order (part_at s i) (nets i)) where
  abbrev whole : Net
  whole = linked_net s nets

  abbrev inputs : List Name
  inputs = all_inputs s nets fit good each

  abbrev wires : List Name
  wires = all_wires s nets fit good each

  abbrev registers : List Name
  registers = all_registers s nets fit good each

  abbrev memories : List Name
  memories = all_memories s nets fit good each

  abbrev all : List Name
  all = all_inner s nets fit good each

  abbrev declared_names : List Name
  declared_names = input_names whole ++ wire_names whole ++ register_names whole ++ memory_names whole

  abbrev is_hidden : Name → Bool
  is_hidden x = not (is_among x (shown_names s))

  -- ---- which names there are

  shown_there : (x : Name) → is_among x (shown_names s) ≡ true → is_among x (inputs ++ all) ≡ true
  shown_there x h = elim (either inputs (wires ++ registers) x (shown_is s nets fit good each x h)) [
    | inl i ↦ among_front x inputs all i
    | inr o ↦ among_behind x inputs all (among_front x (wires ++ registers) memories o)
  ]

  hidden_there : (x : Name) → is_among x (filter is_hidden all) ≡ true → is_among x (inputs ++ all) ≡ true
  hidden_there x h = among_behind x inputs all (and_parts (is_among x all) (is_hidden x) (sym (filter_among is_hidden all x) ∙ h)).0

  names_there : (x : Name) → is_among x whole.names ≡ true → is_among x (inputs ++ all) ≡ true
  names_there x h = elim (either (shown_names s) (filter is_hidden all) x h) [ inl a ↦ shown_there x a | inr b ↦ hidden_there x b ]

  input_shown : (x : Name) → is_among x inputs ≡ true → is_among x (shown_names s) ≡ true
  input_shown x h =
      let a = shown_inputs s nets fit good each in
      let b = shown_registers s nets fit good each in
      let c = shown_sites s nets fit good each in
      ap (is_among x) (shown_are s nets fit good each)
      ∙ among_front x (a ++ b ++ c) (shown_feeds s nets fit good each) (among_front x (a ++ b) c (among_front x a b (sym (ap (is_among x) (inputs_in_order s)) ∙ h)))

  inner_named : (x : Name) → is_among x all ≡ true → is_among x whole.names ≡ true
  inner_named x h = elim (cases_Bool (is_among x (shown_names s))) [
    | inl t ↦ among_front x (shown_names s) (filter is_hidden all) t
    | inr q ↦ among_behind x (shown_names s) (filter is_hidden all) (filter_among is_hidden all x ∙ and_from (is_among x all) (is_hidden x) h (rw q refl))
  ]

  -- the same, register by register in the netlist's order
  to_declared : (x : Name) → is_among x (inputs ++ all) ≡ true → is_among x declared_names ≡ true
  to_declared x h =
      let r = whole_registers s nets fit good each in
      elim (either inputs all x h) [
        | inl i ↦ among_front x (inputs ++ wires ++ r) memories (among_front x (inputs ++ wires) r (among_front x inputs wires i))
        | inr k ↦ elim (either (wires ++ registers) memories x k) [
          | inl o ↦ elim (either wires registers x o) [
            | inl w ↦ among_front x (inputs ++ wires ++ r) memories (among_front x (inputs ++ wires) r (among_behind x inputs wires w))
            | inr g ↦ among_front x (inputs ++ wires ++ r) memories (among_behind x (inputs ++ wires) r (same_registers s nets fit good each x ∙ g))
          ]
          | inr m ↦ among_behind x (inputs ++ wires ++ r) memories m
        ]
      ]

  from_declared : (x : Name) → is_among x declared_names ≡ true → is_among x whole.names ≡ true
  from_declared x h =
      let r = whole_registers s nets fit good each in
      elim (either (inputs ++ wires ++ r) memories x h) [
        | inl k ↦ elim (either (inputs ++ wires) r x k) [
          | inl o ↦ elim (either inputs wires x o) [
            | inl i ↦ among_front x (shown_names s) (filter is_hidden all) (input_shown x i)
            | inr w ↦ inner_named x (wire_inner s nets fit good each x w)
          ]
          | inr g ↦ inner_named x (register_inner s nets fit good each x (sym (same_registers s nets fit good each x) ∙ g))
        ]
        | inr m ↦ inner_named x (memory_inner s nets fit good each x m)
      ]

  once : AreDistinct whole.names
  once =
      distinct_both (shown_names s) (filter is_hidden all) (shown_distinct s nets fit good each) (filter_distinct is_hidden all (inner_distinct s nets fit good each))
      (λ x h. absent x (filter is_hidden all) (λ k. hidden_shown (is_among x (shown_names s))
      (and_parts (is_among x all) (is_hidden x) (sym (filter_among is_hidden all x) ∙ k)).1 h))

  -- ---- what ports show

  ports_show : AllByRecursion (λ (p : Port). PortShows whole p.kind p.name) whole.ports
  ports_show =
      map_of_all (λ (p : Port). PortShows whole p.kind p.name) port_of (held_ports s)
      (held_hold s nets fit good each (λ (p : Shown). PortShows whole p.1 p.0) (λ x h. h) (λ x h. same_registers s nets fit good each x ∙ h) (λ x h. h))

  inputs_are_ports : map (λ (p : Port). p.name) (filter (λ (p : Port). is_input p.kind) whole.ports) ≡ input_names whole
  inputs_are_ports =
      let a = input_ports s.wires 0 s.parts in
      let b = register_ports s.parts in
      let c = refusal_ports s.parts in
      let e = fed_inputs s.wires 0 s.parts in
      of_ports whole.ports
      ∙ ap inputs_among (same_ports (held_ports s))
      ∙ of_both (linked_ports s) e
      ∙ ap₂ both
      (of_both (a ++ b) c
      ∙ ap₂ both
      (of_both a b
      ∙ ap₂ both
      (all_are_inputs a (inputs_hold s nets fit good each (λ (p : Shown). is_input p.1 ≡ true) (λ x h. refl)))
      (none_are_inputs b (registers_hold s nets fit good each (λ (p : Shown). is_input p.1 ≡ false) (λ x h. refl))))
      (none_are_inputs c (sites_hold s nets fit good each (λ (p : Shown). is_input p.1 ≡ false) (λ x h. refl))))
      (none_are_inputs e (fed_hold s nets fit good each (λ (p : Shown). is_input p.1 ≡ false) (λ x h. refl)))
      ∙ append-nil (names_in a ++ [] ++ [])
      ∙ append-nil (names_in a ++ [])
      ∙ append-nil (names_in a)
      ∙ sym (inputs_in_order s)

  is_netlist : IsNetlist whole
  is_netlist =
      record {
        module_named = top_named;
        named = each_among (λ x. is_name x ≡ true) whole.names (λ x h. all_named s nets fit good each x (names_there x h));
        declared_once = once;
        declared = λ x. iff_same (is_among x whole.names) (is_among x declared_names) (λ h. to_declared x (names_there x h)) (from_declared x);
        registers_in_order = registers_in_order s nets fit good each;
        memories_in_order = memories_in_order s nets fit good each;
        ports_first = ports_in_front (held_ports s) (filter is_hidden all);
        ports_show = ports_show;
        inputs_are_ports = inputs_are_ports;
        values = whole_values s nets fit good each;
        memory_shapes = whole_memories s nets fit good each;
        assigns = assigns copies_keep s nets codes fit good each;
        nexts = nexts copies_keep s nets codes fit good each;
        writes = writes copies_keep s nets codes fit good each;
      }

pub linked_net_is_netlist : CopiesAreNetlists → LinkedNetIsNetlist
linked_net_is_netlist copies_keep s nets codes fit good each = is_netlist copies_keep s nets codes fit good each
