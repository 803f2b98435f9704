-- The wires that feed keep the rules of netlists.
use Rattle.sap_lemmas.proofs.Common.{◌≡◌, ℕ, ◌<◌, true, not, List, [], ◌∷◌, ◌++◌, map, filter, length, Option, Some, None, refl, ◌∙◌, ap, subst, AllByRecursion, all_follow, all_of_map, all_parts, map_of_all}
use Rattle.std.proofs.lemmas.Nat.{pow_pos}
use Rattle.sap_maps.specs.Prelude.{Name, Scope, find}
use Rattle.sap_maps.proofs.Scopes.{found_here}
use Rattle.sap_lattice.specs.Codes.{width_of, Codes}
use Rattle.sap_net.specs.Prelude.{is_among, AreDistinct, Net, Shapes, AreWires, IsWidth, readable_after, first_readable, names_of, shapes, value_name, tag_name}
use Rattle.sap_net.specs.declared.parts.Input.{Input}
use Rattle.sap_net.specs.declared.parts.Wire.{Wire}
use Rattle.sap_net.specs.declared.parts.Register.{Register}
use Rattle.sap_net.proofs.NamesLemmas.{among_behind, among_front, among_here}
use Rattle.sap_net.proofs.RulesLemmas.{one_wide, readable_kept, values_found, wires_both, Grows}
use Rattle.sap_interface.specs.StandsFor.{name}
use Rattle.sap_build.specs.Copies.{copy_register}
use Rattle.sap_build.proofs.Inside.{of_entries}
use Rattle.sap_link.specs.Systems.{Connects, System, width_at, WiresFit}
use Rattle.sap_link.specs.Systems.{Wire as SystemWire}
use Rattle.sap_linked.specs.Prelude.{NamedSystem, part_at, system_of, in_part, value_at, tag_at, NamesFit, IsNetOf, below_at, feeds, feeds_through, joined_at, linked_net, shown_names}
use Rattle.sap_linked.proofs.Differing.{is_low}
use Rattle.sap_linked.proofs.Ends.{interface_at}
use Rattle.sap_linked.proofs.Families.{map_both}
use Rattle.sap_linked.proofs.Linked.{design_at}
use Rattle.sap_linked.proofs.Showing.{own_registers}
use Rattle.sap_linked.proofs.SideBySide.{of_first, of_two}
use Rattle.sap_linked.proofs.Values.{input_wide, whole_values}
use Rattle.sap_linked.proofs.Wider.{apart_front, distinct_second, fresh_after}

module _ (s : NamedSystem) (nets : ℕ → Net) (fit : NamesFit s) (good : WiresFit (system_of s)) (each : (i : ℕ) → i < length s.parts → IsNetOf s.order (part_at s i) (nets i)) where
  abbrev y : System
  y = system_of s

  abbrev whole : Net
  whole = linked_net s nets

  abbrev first : Scope
  first = first_readable whole

  abbrev cells : Shapes
  cells = shapes whole

  -- ---- what can be read from the start

  found : AllByRecursion (λ (i : Input). find first i.name ≡ Some i.width) whole.inputs × AllByRecursion (λ (r : Register). find first r.name ≡ Some r.width) whole.registers
  found =
      let two =
      all_parts {X = Name × ℕ} (λ e. find first e.0 ≡ Some e.1) (map {B = Name × ℕ} (λ (i : Input). (i.name, i.width)) whole.inputs)
      (map {B = Name × ℕ} (λ (r : Register). (r.name, r.width)) whole.registers)
      (values_found cells first (whole_values s nets fit good each)) in (
        all_of_map {X = Input} {Y = Name × ℕ} (λ e. find first e.0 ≡ Some e.1) (λ i. (i.name, i.width)) whole.inputs two.0,
        all_of_map {X = Register} {Y = Name × ℕ} (λ e. find first e.0 ≡ Some e.1) (λ r. (r.name, r.width)) whole.registers two.1,
      )

  pub inputs_there : AllByRecursion (λ (i : Input). find first i.name ≡ Some i.width) whole.inputs
  inputs_there = found.0

  pub registers_there : AllByRecursion (λ (r : Register). find first r.name ≡ Some r.width) (own_registers s nets fit good each)
  registers_there =
      let rs = own_registers s nets fit good each in
      let shown = λ (r : Register). is_among r.name (shown_names s) in
      let two = all_parts (λ (r : Register). find first r.name ≡ Some r.width) (filter shown rs) (filter (λ r. not (shown r)) rs) found.1 in
      of_two shown (λ (r : Register). find first r.name ≡ Some r.width) rs two.0 two.1

  pub part_registers : (i : ℕ) → i < length s.parts → AllByRecursion (λ (r : Register). find first (in_part (part_at s i).name r.name) ≡ Some r.width) (nets i).registers
  part_registers i low = of_first (λ i. (nets i).registers) copy_register (λ (r : Register). find first r.name ≡ Some r.width) s i registers_there low

  register_read : (i : ℕ) → i < length s.parts → (x : Name) (u : ℕ)
      → find (map (λ (r : Register). (r.name, r.width)) (nets i).registers) x ≡ Some u → find first (in_part (part_at s i).name x) ≡ Some u
  register_read i low =
      of_entries (λ x u. find first (in_part (part_at s i).name x) ≡ Some u) (map (λ (r : Register). (r.name, r.width)) (nets i).registers)
      (map_of_all {X = Register} {Y = Name × ℕ} (λ e. find first (in_part (part_at s i).name e.0) ≡ Some e.1) (λ r. (r.name, r.width)) (nets i).registers (part_registers i low))

  -- the register of a wire can be read, at the width of the input
  record FeedFits (w : SystemWire) : Type 0 where
    value : IsWidth (width_at y w.to)
    tag : IsWidth (width_of s.order)
    from_value : find first (value_at s w.from) ≡ Some (width_at y w.to)
    from_tag : find first (tag_at s w.from) ≡ Some (width_of s.order)

  feed_fits : (w : SystemWire) → Connects y w → FeedFits w
  feed_fits w c =
      let i = w.from.part in
      let low = is_low s nets fit good each i c.from_part in
      let d = design_at s i in
      let declares = (interface_at s nets fit each i low).declares.part.registers w.from.entity c.register in
      let wide = input_wide s nets fit good each w.to.part (is_low s nets fit good each w.to.part c.to_part) w.to.entity c.input in
      record {
        value = wide.0;
        tag = wide.1;
        from_value = subst (λ (u : ℕ). find first (value_at s w.from) ≡ Some u) c.widths (register_read i low (value_name (name d w.from.entity)) _ declares.0);
        from_tag = register_read i low (tag_name (name d w.from.entity)) _ declares.1;
      }

  module _ (codes : Codes s.order) where
    abbrev Fresh : Scope → List Wire → Type 0
    Fresh sc ws = (x : Name) → is_among x (names_of ws) ≡ true → (find sc x ≡ None) × (find cells x ≡ None)

    one_feed : (w : SystemWire) (l : Option ℕ) → FeedFits w → (sc : Scope) → Grows first sc → Fresh sc (feeds_through s w l) → AreWires cells sc (feeds_through s w l)
    one_feed w None f sc grows fresh =
        let v = fresh (value_at s w.to) (among_here (value_at s w.to) (tag_at s w.to ∷ [])) in
        let t = fresh (tag_at s w.to) (among_behind (tag_at s w.to) (value_at s w.to ∷ []) (tag_at s w.to ∷ []) (among_here (tag_at s w.to) [])) in
        (f.value, v.0, v.1, grows (value_at s w.from) _ f.from_value, (f.tag, t.0, t.1, grows (tag_at s w.from) _ f.from_tag, tt))
    one_feed w (Some l) f sc grows fresh =
        let u = width_of s.order in
        let a = joined_at s w.to in
        let b = below_at s w.to in
        let c = value_at s w.to in
        let e = tag_at s w.to in
        let j = fresh a (among_here a (b ∷ c ∷ e ∷ [])) in
        let k = fresh b (among_behind b (a ∷ []) (b ∷ c ∷ e ∷ []) (among_here b (c ∷ e ∷ []))) in
        let v = fresh c (among_behind c (a ∷ b ∷ []) (c ∷ e ∷ []) (among_here c (e ∷ []))) in
        let t = fresh e (among_behind e (a ∷ b ∷ c ∷ []) (e ∷ []) (among_here e [])) in (
          f.tag,
          j.0,
          j.1,
          (u, u, f.tag, f.tag, grows (tag_at s w.from) _ f.from_tag, (refl, codes.small l), refl, refl),
          (
            one_wide,
            k.0,
            k.1,
            (u, u, f.tag, f.tag, found_here a u sc, (refl, codes.small l), refl, refl),
            (
              f.value,
              v.0,
              v.1,
              (found_here b 1 ((a, u) ∷ sc), grows (value_at s w.from) _ f.from_value, (refl, pow_pos (width_at y w.to))),
              (f.tag, t.0, t.1, (refl, codes.small l), tt),
            ),
          ),
        )

    feed_wires : (ws : List SystemWire) → AllByRecursion FeedFits ws → (sc : Scope) → Grows first sc → Fresh sc (feeds s ws)
        → AreDistinct (names_of (feeds s ws)) → AreWires cells sc (feeds s ws)
    feed_wires [] fits sc grows fresh d = tt
    feed_wires (w ∷ ws) fits sc grows fresh d =
        let here = feeds_through s w w.level in
        let rest = feeds s ws in
        let names = map_both (λ (x : Wire). x.name) here rest in
        let split : AreDistinct (names_of here ++ names_of rest) = subst (λ (ns : List Name). AreDistinct ns) names d in
        let fresh_in = λ (x : Name) (h : is_among x (names_of here ++ names_of rest) ≡ true). fresh x (ap (is_among x) names ∙ h) in
        let one = one_feed w w.level fits.0 sc grows (λ x h. fresh_in x (among_front x (names_of here) (names_of rest) h)) in
        wires_both cells here rest sc one
        (feed_wires ws fits.1 (readable_after sc here) (λ n u h. readable_kept cells here sc one n u (grows n u h))
        (λ x h. (
        let f = fresh_in x (among_behind x (names_of here) (names_of rest) h) in
        (fresh_after here sc x f.0 (apart_front (names_of here) (names_of rest) split x h), f.1)))
        (distinct_second (names_of here) (names_of rest) split))

    pub all_feeds : Fresh first (feeds s s.wires) → AreDistinct (names_of (feeds s s.wires)) → AreWires cells first (feeds s s.wires)
    all_feeds = feed_wires s.wires (all_follow (Connects y) FeedFits s.wires feed_fits good.each) first (λ n u h. h)
