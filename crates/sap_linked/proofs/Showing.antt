-- What the ports of a system show is there, and no two show the same.
use Rattle.sap_lemmas.proofs.Common.{◌≡◌, ℕ, ◌+◌, ◌<◌, ◌≤◌, Bool, true, false, List, [], ◌∷◌, ◌++◌, map, length, take, drop, refl, sym, ◌∙◌, ap, subst, inl, inr, arith, AllByRecursion, and_parts, cases_Bool, take-append-drop, all_append, all_of_map, map_of_all}
use Rattle.sap_maps.specs.Maps.{Name}
use Rattle.sap_lattice.specs.Codes.{width_of}
use Rattle.sap_meaning.specs.Program.{Entity, is_input, is_register}
use Rattle.sap_net.specs.Prelude.{is_among, AreDistinct, Net, input_names, memory_names, names_of, wire_names, value_name, tag_name, refused_name, refused_level_name}
use Rattle.sap_net.specs.declared.parts.PortKind.{PortKind}
use Rattle.sap_net.specs.declared.parts.Port.{Port}
use Rattle.sap_net.specs.declared.parts.Wire.{Wire}
use Rattle.sap_net.specs.declared.parts.Register.{Register}
use Rattle.sap_net.specs.declared.parts.Memory.{Memory}
use Rattle.sap_net.specs.declared.parts.PortKind.TheVariants as kind
use Rattle.sap_net.proofs.NamesLemmas.{among_behind, among_each, among_front, distinct_both, each_among, found_among}
use Rattle.sap_interface.specs.Prelude.{Named, name, world, Shown, HasInterface, pairs_of, ports_of, site_ports}
use Rattle.sap_build.specs.Copies.{copy_wire, copy_register, copy_memory}
use Rattle.sap_link.specs.Systems.{endpoint, is_fed, WiresFit}
use Rattle.sap_linked.specs.Prelude.{NamedSystem, part_at, system_of, in_part, NamesFit, IsNetOf, input_ports, register_ports, refusal_ports, fed_inputs, is_fed_input, is_free, linked_ports, copies_of, feeds, held_ports, linked_net, shown_names}
use Rattle.sap_linked.proofs.Differing.{all_names_differ, memories_in, own_pairs, pair_long, registers_in, registers_long, wires_in, wires_long}
use Rattle.sap_linked.proofs.EachInput.{fed_ends, AtEnd}
use Rattle.sap_linked.proofs.Entities.{names_of_pairs, of_pair, still_distinct}
use Rattle.sap_linked.proofs.Families.{among_copies, copies_distinct, copies_named, map_both, named_copies, whole_list}
use Rattle.sap_linked.proofs.Fed.{of_fed}
use Rattle.sap_linked.proofs.Order.{inputs_in_order}
use Rattle.sap_linked.proofs.Own.{both}
use Rattle.sap_linked.proofs.Parted.{absent, contradicted, distinct_front, either, entry_names}
use Rattle.sap_linked.proofs.Ports.{block_each, block_in, block_names, fed_are, fed_of, free_of, inputs_are, names_in, pairs_each, refusals_are, registers_are, registers_of, sites_each, sites_of}
use Rattle.sap_linked.proofs.Wider.{apart_front, distinct_second}

-- the names of pairs are the same for every kind
other_kind : (d : Named) (k l : PortKind) (picks : ℕ → Bool) (n : ℕ) (es : List Entity) → names_of_pairs d k picks n es ≡ names_of_pairs d l picks n es
other_kind d k l picks n [] = refl
other_kind d k l picks n (e ∷ es) = elim (cases_Bool (picks n)) [
  | inl t ↦ rw t (ap (λ (ns : List Name). value_name (name d n) ∷ (tag_name (name d n) ∷ ns)) (other_kind d k l picks (n + 1) es))
  | inr q ↦ rw q (other_kind d k l picks (n + 1) es)
]

module _ (s : NamedSystem) (nets : ℕ → Net) (fit : NamesFit s) (good : WiresFit (system_of s)) (each : (i : ℕ) → i < length s.parts → IsNetOf s.order (part_at s i) (nets i)) where
  -- ---- the names of the whole, by what they name

  abbrev pub own_registers : List Register
  own_registers = copies_of (λ i. (nets i).registers) copy_register 0 s.parts

  abbrev pub all_inputs : List Name
  all_inputs = input_names (linked_net s nets)

  abbrev pub all_wires : List Name
  all_wires = wire_names (linked_net s nets)

  abbrev pub all_registers : List Name
  all_registers = map (λ (r : Register). r.name) own_registers

  abbrev pub all_memories : List Name
  all_memories = memory_names (linked_net s nets)

  abbrev pub all_inner : List Name
  all_inner = all_wires ++ all_registers ++ all_memories

  pub all_differ : AreDistinct (all_inputs ++ all_inner)
  all_differ = all_names_differ inputs_in_order s nets fit good each

  pub inner_distinct : AreDistinct all_inner
  inner_distinct = distinct_second all_inputs all_inner all_differ

  pub no_input : (x : Name) → is_among x all_inner ≡ true → is_among x all_inputs ≡ false
  no_input = apart_front all_inputs all_inner all_differ

  pub no_wire : (x : Name) → is_among x all_registers ≡ true → is_among x all_wires ≡ false
  no_wire = apart_front all_wires all_registers (distinct_front (all_wires ++ all_registers) all_memories inner_distinct)

  pub no_wire_or_register : (x : Name) → is_among x all_memories ≡ true → is_among x (all_wires ++ all_registers) ≡ false
  no_wire_or_register = apart_front (all_wires ++ all_registers) all_memories inner_distinct

  pub wire_inner : (x : Name) → is_among x all_wires ≡ true → is_among x all_inner ≡ true
  wire_inner x h = among_front x (all_wires ++ all_registers) all_memories (among_front x all_wires all_registers h)

  pub register_inner : (x : Name) → is_among x all_registers ≡ true → is_among x all_inner ≡ true
  register_inner x h = among_front x (all_wires ++ all_registers) all_memories (among_behind x all_wires all_registers h)

  pub memory_inner : (x : Name) → is_among x all_memories ≡ true → is_among x all_inner ≡ true
  memory_inner x h = among_behind x (all_wires ++ all_registers) all_memories h

  abbrev pub fed_wires : List Name
  fed_wires = names_of (feeds s s.wires)

  abbrev pub part_wires : List Name
  part_wires = named_copies (wires_in s nets fit good each) 0 s.parts

  pub part_wires_are : names_of (copies_of (λ i. (nets i).wires) copy_wire 0 s.parts) ≡ part_wires
  part_wires_are = copies_named (λ i. (nets i).wires) copy_wire (λ (w : Wire). w.name) (λ f w. refl) 0 s.parts

  pub wires_are : all_wires ≡ fed_wires ++ part_wires
  wires_are =
      map_both (λ (w : Wire). w.name) (feeds s s.wires) (copies_of (λ i. (nets i).wires) copy_wire 0 s.parts) ∙ ap (λ (ns : List Name). fed_wires ++ ns) part_wires_are

  pub registers_copied : all_registers ≡ named_copies (registers_in s nets fit good each) 0 s.parts
  registers_copied = copies_named (λ i. (nets i).registers) copy_register (λ (r : Register). r.name) (λ f r. refl) 0 s.parts

  pub memories_copied : all_memories ≡ named_copies (memories_in s nets fit good each) 0 s.parts
  memories_copied = copies_named (λ i. (nets i).memories) copy_memory (λ (m : Memory). m.name) (λ f m. refl) 0 s.parts

  pub fed_there : (x : Name) → is_among x fed_wires ≡ true → is_among x all_wires ≡ true
  fed_there x h = ap (is_among x) wires_are ∙ among_front x fed_wires part_wires h

  pub wire_there : (x : Name) → is_among x part_wires ≡ true → is_among x all_wires ≡ true
  wire_there x h = ap (is_among x) wires_are ∙ among_behind x fed_wires part_wires h

  pub part_register : (i : ℕ) → i < length s.parts → (x : Name) → is_among x (registers_in s nets fit good each i) ≡ true
      → is_among (in_part (part_at s i).name x) all_registers ≡ true
  part_register i low x h =
      ap (is_among (in_part (part_at s i).name x)) registers_copied ∙ among_copies s (registers_in s nets fit good each) 0 s.parts (whole_list s) i (omega arith) low x h

  -- ---- ports, kind by kind

  module _ (i : ℕ) (low : i < length s.parts) where
    abbrev d : Named
    d = (part_at s i).design

    interface : HasInterface d (width_of s.order) (part_at s i).sites (nets i)
    interface = (each i low).stands.interface

    pub registers_hold_in : (P : Shown → Type 0)
        → ((x : Name) → is_among x (registers_in s nets fit good each i) ≡ true → P (x, kind.Register)) → AllByRecursion P (registers_of (part_at s i) i)
    registers_hold_in P h =
        pairs_each P (is_register (world d)) kind.Register d (λ x is. (
          h (value_name (name d x)) (found_among (λ (r : Register). r.name) (λ r. r.width) (nets i).registers (value_name (name d x)) _ (interface.declares.part.registers x is).0),
          h (tag_name (name d x)) (found_among (λ (r : Register). r.name) (λ r. r.width) (nets i).registers (tag_name (name d x)) _ (interface.declares.part.registers x is).1),
        )) 0 (world d).entities

    pub sites_hold_in : (P : Shown → Type 0) → ((x : Name) → is_among x (wires_in s nets fit good each i) ≡ true → P (x, kind.Wire)) → AllByRecursion P (sites_of (part_at s i) i)
    sites_hold_in P h =
        sites_each P (part_at s i).sites (λ j from to. (
          h (refused_name j) (found_among (λ (w : Wire). w.name) (λ w. w.width) (nets i).wires (refused_name j) _ (interface.declares.part.site_wires j from to).0),
          h (refused_level_name j) (found_among (λ (w : Wire). w.name) (λ w. w.width) (nets i).wires (refused_level_name j) _ (interface.declares.part.site_wires j from to).1),
        )) 1 (part_at s i).sites (omega arith) (omega arith)

    -- names of the ports of the part's own netlist
    pub own_names : names_in (ports_of d (part_at s i).sites) ≡ take (length (nets i).ports) (nets i).names
    own_names =
        ap names_in (sym interface.declares.ports)
        ∙ entry_names (λ (p : Port). p.name) (λ p. p.kind) (nets i).ports
        ∙ (each i low).netlist.ports_first

    pub own_split : AreDistinct (take (length (nets i).ports) (nets i).names ++ drop (length (nets i).ports) (nets i).names)
    own_split = subst (λ (ns : List Name). AreDistinct ns) (sym (take-append-drop (length (nets i).ports) (nets i).names)) (each i low).netlist.declared_once

    abbrev pub inputs_shown : List Shown
    inputs_shown = pairs_of (is_input (world d)) kind.Input d 0 (world d).entities

    abbrev pub registers_shown : List Shown
    registers_shown = pairs_of (is_register (world d)) kind.Register d 0 (world d).entities

    pub own_parts : names_in (ports_of d (part_at s i).sites) ≡ names_in inputs_shown ++ names_in registers_shown ++ names_in (site_ports 1 (part_at s i).sites)
    own_parts =
        map_both (λ (p : Shown). p.0) (inputs_shown ++ registers_shown) (site_ports 1 (part_at s i).sites)
        ∙ ap (λ (ns : List Name). ns ++ names_in (site_ports 1 (part_at s i).sites)) (map_both (λ (p : Shown). p.0) inputs_shown registers_shown)

    own_distinct : AreDistinct (names_in inputs_shown ++ names_in registers_shown ++ names_in (site_ports 1 (part_at s i).sites))
    own_distinct =
        subst (λ (ns : List Name). AreDistinct ns) own_parts (subst (λ (ns : List Name). AreDistinct ns) (sym own_names)
        (distinct_front (take (length (nets i).ports) (nets i).names) (drop (length (nets i).ports) (nets i).names) own_split))

    own_registers_distinct : AreDistinct (names_in registers_shown)
    own_registers_distinct =
        distinct_second (names_in inputs_shown) (names_in registers_shown)
        (distinct_front (names_in inputs_shown ++ names_in registers_shown) (names_in (site_ports 1 (part_at s i).sites)) own_distinct)

    own_sites_distinct : AreDistinct (names_in (site_ports 1 (part_at s i).sites))
    own_sites_distinct = distinct_second (names_in inputs_shown ++ names_in registers_shown) (names_in (site_ports 1 (part_at s i).sites)) own_distinct

    own_fed_distinct : AreDistinct (block_in s (fed_of s.wires) i)
    own_fed_distinct =
        still_distinct d kind.Wire (is_input (world d)) (is_fed_input s.wires (part_at s i) i)
        (λ x is. (and_parts (is_input (world d) x) (is_fed s.wires (endpoint i x)) is).0) 0 (world d).entities
        (subst (λ (ns : List Name). AreDistinct ns) (other_kind d kind.Input kind.Wire (is_input (world d)) 0 (world d).entities) (own_pairs s nets fit good each i low))

  pub registers_hold : (P : Shown → Type 0) → ((x : Name) → is_among x all_registers ≡ true → P (x, kind.Register)) → AllByRecursion P (register_ports s.parts)
  registers_hold P h =
      subst (λ (xs : List Shown). AllByRecursion P xs) (sym (registers_are 0 s.parts))
      (block_each s registers_of P (λ i low. registers_hold_in i low (λ (port : Shown). P (in_part (part_at s i).name port.0, port.1))
      (λ x k. h (in_part (part_at s i).name x) (part_register i low x k))) 0 s.parts (whole_list s))

  pub sites_hold : (P : Shown → Type 0) → ((x : Name) → is_among x part_wires ≡ true → P (x, kind.Wire)) → AllByRecursion P (refusal_ports s.parts)
  sites_hold P h =
      subst (λ (xs : List Shown). AllByRecursion P xs) (sym (refusals_are 0 s.parts))
      (block_each s sites_of P (λ i low. sites_hold_in i low (λ (port : Shown). P (in_part (part_at s i).name port.0, port.1))
      (λ x k. h (in_part (part_at s i).name x) (among_copies s (wires_in s nets fit good each) 0 s.parts (whole_list s) i (omega arith) low x k))) 0 s.parts (whole_list s))

  abbrev IsFeed : Name → ℕ → Type 0
  IsFeed x u = is_among x fed_wires ≡ true

  ends_fed : AllByRecursion (λ w. AtEnd s IsFeed w.to) s.wires
  ends_fed = fed_ends s IsFeed s.wires (all_of_map (λ x. is_among x fed_wires ≡ true) (λ (w : Wire). w.name) (feeds s s.wires)
      (each_among (λ x. is_among x fed_wires ≡ true) fed_wires (λ x h. h)))

  pub fed_hold : (P : Shown → Type 0) → ((x : Name) → is_among x fed_wires ≡ true → P (x, kind.Wire)) → AllByRecursion P (fed_inputs s.wires 0 s.parts)
  fed_hold P h =
      subst (λ (xs : List Shown). AllByRecursion P xs) (sym (fed_are s.wires 0 s.parts))
      (block_each s (fed_of s.wires) P (λ i low.
      let d = (part_at s i).design in
      pairs_each (λ (port : Shown). P (in_part (part_at s i).name port.0, port.1)) (is_fed_input s.wires (part_at s i) i) kind.Wire d (λ x is.
      let end = of_fed s.wires (AtEnd s IsFeed) ends_fed (endpoint i x) (and_parts (is_input (world d) x) (is_fed s.wires (endpoint i x)) is).1 in (
        h (in_part (part_at s i).name (value_name (name d x))) end.0,
        h (in_part (part_at s i).name (tag_name (name d x))) end.1,
      )) 0 (world d).entities) 0 s.parts (whole_list s))

  input_kinds : AllByRecursion (λ (port : Shown). port.1 ≡ kind.Input) (input_ports s.wires 0 s.parts)
  input_kinds =
      subst (λ (xs : List Shown). AllByRecursion (λ (port : Shown). port.1 ≡ kind.Input) xs) (sym (inputs_are s.wires 0 s.parts))
      (block_each s (free_of s.wires) (λ (port : Shown). port.1 ≡ kind.Input) (λ i low.
      pairs_each (λ (port : Shown). port.1 ≡ kind.Input) (is_free s.wires (part_at s i) i) kind.Input (part_at s i).design
      (λ x is. (refl, refl)) 0 (world (part_at s i).design).entities) 0 s.parts (whole_list s))

  pub inputs_hold : (P : Shown → Type 0) → ((x : Name) → is_among x all_inputs ≡ true → P (x, kind.Input)) → AllByRecursion P (input_ports s.wires 0 s.parts)
  inputs_hold P h =
      both (λ (port : Shown). port.1 ≡ kind.Input) (λ port. is_among port.0 all_inputs ≡ true) P (input_ports s.wires 0 s.parts)
      (λ port k there. subst (λ (l : PortKind). P (port.0, l)) (sym k) (h port.0 there)) input_kinds
      (all_of_map (λ x. is_among x all_inputs ≡ true) (λ (port : Shown). port.0) (input_ports s.wires 0 s.parts)
      (subst (λ (ns : List Name). AllByRecursion (λ x. is_among x all_inputs ≡ true) ns) (inputs_in_order s)
      (each_among (λ x. is_among x all_inputs ≡ true) all_inputs (λ x k. k))))

  pub held_hold : (P : Shown → Type 0) → ((x : Name) → is_among x all_inputs ≡ true → P (x, kind.Input)) → ((x : Name) → is_among x all_registers ≡ true → P (x, kind.Register))
      → ((x : Name) → is_among x all_wires ≡ true → P (x, kind.Wire)) → AllByRecursion P (held_ports s)
  held_hold P of_input of_register of_wire =
      all_append P (linked_ports s) (fed_inputs s.wires 0 s.parts)
      (all_append P (input_ports s.wires 0 s.parts ++ register_ports s.parts) (refusal_ports s.parts)
      (all_append P (input_ports s.wires 0 s.parts) (register_ports s.parts) (inputs_hold P of_input) (registers_hold P of_register))
      (sites_hold P (λ x h. of_wire x (wire_there x h))))
      (fed_hold P (λ x h. of_wire x (fed_there x h)))

  -- ---- the names that are shown

  abbrev pub shown_inputs : List Name
  shown_inputs = names_in (input_ports s.wires 0 s.parts)

  abbrev pub shown_registers : List Name
  shown_registers = names_in (register_ports s.parts)

  abbrev pub shown_sites : List Name
  shown_sites = names_in (refusal_ports s.parts)

  abbrev pub shown_feeds : List Name
  shown_feeds = names_in (fed_inputs s.wires 0 s.parts)

  pub shown_are : shown_names s ≡ shown_inputs ++ shown_registers ++ shown_sites ++ shown_feeds
  shown_are =
      map_both (λ (p : Shown). p.0) (linked_ports s) (fed_inputs s.wires 0 s.parts)
      ∙ ap (λ (ns : List Name). ns ++ shown_feeds)
      (map_both (λ (p : Shown). p.0) (input_ports s.wires 0 s.parts ++ register_ports s.parts) (refusal_ports s.parts)
      ∙ ap (λ (ns : List Name). ns ++ shown_sites) (map_both (λ (p : Shown). p.0) (input_ports s.wires 0 s.parts) (register_ports s.parts)))

  pub input_shown_there : (x : Name) → is_among x shown_inputs ≡ true → is_among x all_inputs ≡ true
  input_shown_there x h = ap (is_among x) (inputs_in_order s) ∙ h

  pub register_shown_there : (x : Name) → is_among x shown_registers ≡ true → is_among x all_registers ≡ true
  register_shown_there =
      among_each (λ x. is_among x all_registers ≡ true) shown_registers
      (map_of_all (λ x. is_among x all_registers ≡ true) (λ (p : Shown). p.0) (register_ports s.parts)
      (registers_hold (λ (p : Shown). is_among p.0 all_registers ≡ true) (λ x h. h)))

  pub site_shown_there : (x : Name) → is_among x shown_sites ≡ true → is_among x part_wires ≡ true
  site_shown_there =
      among_each (λ x. is_among x part_wires ≡ true) shown_sites
      (map_of_all (λ x. is_among x part_wires ≡ true) (λ (p : Shown). p.0) (refusal_ports s.parts) (sites_hold (λ (p : Shown). is_among p.0 part_wires ≡ true) (λ x h. h)))

  pub feed_shown_there : (x : Name) → is_among x shown_feeds ≡ true → is_among x fed_wires ≡ true
  feed_shown_there =
      among_each (λ x. is_among x fed_wires ≡ true) shown_feeds
      (map_of_all (λ x. is_among x fed_wires ≡ true) (λ (p : Shown). p.0) (fed_inputs s.wires 0 s.parts) (fed_hold (λ (p : Shown). is_among p.0 fed_wires ≡ true) (λ x h. h)))

  -- ---- no two are the same

  pub registers_shown_in : (i : ℕ) → i < length s.parts → (x : Name) → is_among x (block_in s registers_of i) ≡ true → is_among x (registers_in s nets fit good each i) ≡ true
  registers_shown_in i low =
      among_each (λ x. is_among x (registers_in s nets fit good each i) ≡ true) (block_in s registers_of i)
      (map_of_all (λ x. is_among x (registers_in s nets fit good each i) ≡ true) (λ (p : Shown). p.0) (registers_of (part_at s i) i)
      (registers_hold_in i low (λ (p : Shown). is_among p.0 (registers_in s nets fit good each i) ≡ true) (λ x h. h)))

  pub sites_shown_in : (i : ℕ) → i < length s.parts → (x : Name) → is_among x (block_in s sites_of i) ≡ true → is_among x (wires_in s nets fit good each i) ≡ true
  sites_shown_in i low =
      among_each (λ x. is_among x (wires_in s nets fit good each i) ≡ true) (block_in s sites_of i)
      (map_of_all (λ x. is_among x (wires_in s nets fit good each i) ≡ true) (λ (p : Shown). p.0) (sites_of (part_at s i) i)
      (sites_hold_in i low (λ (p : Shown). is_among p.0 (wires_in s nets fit good each i) ≡ true) (λ x h. h)))

  pub registers_shown_are : shown_registers ≡ named_copies (block_in s registers_of) 0 s.parts
  registers_shown_are = ap names_in (registers_are 0 s.parts) ∙ block_names s registers_of 0 s.parts (whole_list s)

  registers_shown_distinct : AreDistinct shown_registers
  registers_shown_distinct =
      subst (λ (ns : List Name). AreDistinct ns) (sym registers_shown_are)
      (copies_distinct s fit (block_in s registers_of)
      (λ i low x h. registers_long s nets fit good each i low x (registers_shown_in i low x h)) (λ i low. own_registers_distinct i low) 0 s.parts (whole_list s))

  sites_shown_distinct : AreDistinct shown_sites
  sites_shown_distinct =
      subst (λ (ns : List Name). AreDistinct ns) (sym (ap names_in (refusals_are 0 s.parts) ∙ block_names s sites_of 0 s.parts (whole_list s)))
      (copies_distinct s fit (block_in s sites_of) (λ i low x h. wires_long s nets fit good each i low x (sites_shown_in i low x h))
      (λ i low. own_sites_distinct i low) 0 s.parts (whole_list s))

  fed_long : (i : ℕ) → i < length s.parts → (x : Name) → is_among x (block_in s (fed_of s.wires) i) ≡ true → 2 ≤ length x
  fed_long i low z h =
      let r = of_pair (part_at s i).design kind.Wire (is_fed_input s.wires (part_at s i) i) z 0 (world (part_at s i).design).entities h in
      pair_long s nets fit good each i z r.0 r.2

  feeds_shown_distinct : AreDistinct shown_feeds
  feeds_shown_distinct =
      subst (λ (ns : List Name). AreDistinct ns) (sym (ap names_in (fed_are s.wires 0 s.parts) ∙ block_names s (fed_of s.wires) 0 s.parts (whole_list s)))
      (copies_distinct s fit (block_in s (fed_of s.wires)) fed_long (λ i low. own_fed_distinct i low) 0 s.parts (whole_list s))

  inputs_shown_distinct : AreDistinct shown_inputs
  inputs_shown_distinct = subst (λ (ns : List Name). AreDistinct ns) (inputs_in_order s) (distinct_front all_inputs all_inner all_differ)

  pub wires_distinct : AreDistinct (fed_wires ++ part_wires)
  wires_distinct = subst (λ (ns : List Name). AreDistinct ns) wires_are
      (distinct_front all_wires all_registers (distinct_front (all_wires ++ all_registers) all_memories inner_distinct))

  pub input_no_inner : (x : Name) → is_among x all_inputs ≡ true → is_among x all_inner ≡ true → ⊥
  input_no_inner x h k = contradicted (is_among x all_inputs) (no_input x k) h

  pub register_no_wire : (x : Name) → is_among x all_registers ≡ true → is_among x all_wires ≡ true → ⊥
  register_no_wire x h k = contradicted (is_among x all_wires) (no_wire x h) k

  pub shown_distinct : AreDistinct (shown_names s)
  shown_distinct =
      subst (λ (ns : List Name). AreDistinct ns) (sym shown_are)
      (distinct_both (shown_inputs ++ shown_registers ++ shown_sites) shown_feeds
      (distinct_both (shown_inputs ++ shown_registers) shown_sites
      (distinct_both shown_inputs shown_registers inputs_shown_distinct registers_shown_distinct
      (λ z h. absent z shown_registers (λ k. input_no_inner z (input_shown_there z h) (register_inner z (register_shown_there z k)))))
      sites_shown_distinct
      (λ z h. absent z shown_sites (λ k. elim (either shown_inputs shown_registers z h) [
        | inl a ↦ input_no_inner z (input_shown_there z a) (wire_inner z (wire_there z (site_shown_there z k)))
        | inr b ↦ register_no_wire z (register_shown_there z b) (wire_there z (site_shown_there z k))
      ])))
      feeds_shown_distinct
      (λ z h. absent z shown_feeds (λ k. elim (either (shown_inputs ++ shown_registers) shown_sites z h) [
        | inl a ↦ elim (either shown_inputs shown_registers z a) [
          | inl b ↦ input_no_inner z (input_shown_there z b) (wire_inner z (fed_there z (feed_shown_there z k)))
          | inr c ↦ register_no_wire z (register_shown_there z c) (fed_there z (feed_shown_there z k))
        ]
        | inr b ↦ contradicted (is_among z fed_wires) (apart_front fed_wires part_wires wires_distinct z (site_shown_there z b)) (feed_shown_there z k)
      ])))
