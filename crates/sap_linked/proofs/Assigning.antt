-- The wires, registers and memories of the netlist of a system keep the rules of use and of widths.
use Rattle.sap_lemmas.proofs.Common.{◌≡◌, ℕ, ◌<◌, true, List, ◌++◌, map, length, Some, None, refl, sym, ◌∙◌, ap, subst, AllByRecursion, all_append, all_follow, all_of_map, all_parts, map_of_all}
use Rattle.sap_maps.specs.Prelude.{Name, Scope, find}
use Rattle.sap_lattice.specs.Codes.{Codes}
use Rattle.sap_net.specs.Prelude.{is_among, is_name, AreDistinct, Net, Shapes, AreWires, IsRegister, IsMemory, readable_after, IsNetlist, first_readable, readable, shapes, top_name}
use Rattle.sap_net.specs.declared.parts.Input.{Input}
use Rattle.sap_net.specs.declared.parts.Wire.{Wire}
use Rattle.sap_net.specs.declared.parts.Register.{Register}
use Rattle.sap_net.specs.declared.parts.Memory.{Memory}
use Rattle.sap_net.proofs.NamesLemmas.{among_front, among_neither}
use Rattle.sap_net.proofs.RulesLemmas.{operand_grows, readable_kept, wires_both, Grows}
use Rattle.sap_net.proofs.Same.{all_found}
use Rattle.sap_build.specs.Copies.{copy_input, copy_memory, copy_net, copy_register, copy_wire}
use Rattle.sap_build.specs.Laws.{CopiesAreNetlists}
use Rattle.sap_build.proofs.Inserted.{GrowsIn}
use Rattle.sap_build.proofs.Inside.{of_entries, of_readable}
use Rattle.sap_link.specs.Systems.{WiresFit}
use Rattle.sap_linked.specs.Prelude.{NamedSystem, part_at, system_of, in_part, NamesFit, IsNetOf, copies_of, feeds, linked_net}
use Rattle.sap_linked.proofs.EachInput.{at_inputs}
use Rattle.sap_linked.proofs.Families.{whole_list}
use Rattle.sap_linked.proofs.Feeding.{all_feeds, inputs_there, part_registers}
use Rattle.sap_linked.proofs.InOrder.{same_registers, whole_registers}
use Rattle.sap_linked.proofs.Naming.{keeps}
use Rattle.sap_linked.proofs.Own.{wires_read}
use Rattle.sap_linked.proofs.Parted.{absent, contradicted, distinct_front, find_absent}
use Rattle.sap_linked.proofs.Showing.{all_inputs, all_registers, all_wires, fed_there, fed_wires, no_input, no_wire, part_wires, part_wires_are, wire_inner, wire_there, wires_distinct}
use Rattle.sap_linked.proofs.SideBySide.{of_first, to_all}
use Rattle.sap_linked.proofs.Values.{first_named, to_whole, whole_memories, wire_no_memory}
use Rattle.sap_linked.proofs.Wider.{apart_front, distinct_second, fresh_after, parts_wires}

pub top_named : is_name top_name ≡ true
unfolding is_name
top_named = refl

module _ (copies_keep : CopiesAreNetlists) (s : NamedSystem) (nets : ℕ → Net) (codes : Codes s.order) (fit : NamesFit s) (good : WiresFit (system_of s))
    (each : (i : ℕ) → i < length s.parts → IsNetOf s.order (part_at s i) (nets i)) where
  abbrev whole : Net
  whole = linked_net s nets

  abbrev first : Scope
  first = first_readable whole

  abbrev cells : Shapes
  cells = shapes whole

  abbrev fed : List Wire
  fed = feeds s s.wires

  abbrev copies : List Wire
  copies = copies_of (λ i. (nets i).wires) copy_wire 0 s.parts

  abbrev copy : ℕ → Net
  copy i = copy_net top_name (in_part (part_at s i).name) (nets i)

  copy_rules : (i : ℕ) → i < length s.parts → IsNetlist (copy i)
  copy_rules i low = copies_keep top_name (in_part (part_at s i).name) (nets i) top_named (each i low).netlist (keeps s nets fit good each i low)

  -- ---- wires that feed

  new : (x : Name) → is_among x (all_wires s nets fit good each) ≡ true → (find first x ≡ None) × (find cells x ≡ None)
  new x h = (
    find_absent first x (ap (is_among x) (first_named s nets fit good each)
        ∙ among_neither x (all_inputs s nets fit good each) (whole_registers s nets fit good each) (no_input s nets fit good each x (wire_inner s nets fit good each x h))
        (absent x (whole_registers s nets fit good each) (λ k.
        contradicted (is_among x (all_wires s nets fit good each)) (no_wire s nets fit good each x (sym (same_registers s nets fit good each x) ∙ k)) h))),
    wire_no_memory s nets fit good each x (among_front x (all_wires s nets fit good each) (all_registers s nets fit good each) h),
  )

  both_distinct : AreDistinct (fed_wires s nets fit good each ++ part_wires s nets fit good each)
  both_distinct = wires_distinct s nets fit good each

  fed_rules : AreWires cells first fed
  fed_rules = all_feeds s nets fit good each codes (λ x h. new x (fed_there s nets fit good each x h))
      (distinct_front (fed_wires s nets fit good each) (part_wires s nets fit good each) both_distinct)

  -- ---- wires of parts

  abbrev behind : Scope
  behind = readable_after first fed

  module _ (i : ℕ) (low : i < length s.parts) where
    abbrev f : Name → Name
    f = in_part (part_at s i).name

    first_grows : Grows (first_readable (copy i)) behind
    first_grows =
        of_entries (λ x u. find behind x ≡ Some u) (first_readable (copy i))
        (all_append {A = Name × ℕ} (λ e. find behind e.0 ≡ Some e.1)
        (map {B = Name × ℕ} (λ (x : Input). (x.name, x.width)) (map (copy_input f) (nets i).inputs))
        (map {B = Name × ℕ} (λ (r : Register). (r.name, r.width)) (map (copy_register f) (nets i).registers))
        (map_of_all {X = Input} {Y = Name × ℕ} (λ e. find behind e.0 ≡ Some e.1) (λ x. (x.name, x.width)) (map (copy_input f) (nets i).inputs)
        (map_of_all (λ (x : Input). find behind x.name ≡ Some x.width) (copy_input f) (nets i).inputs
        (at_inputs s (λ x u. find behind x ≡ Some u)
        (all_follow (λ (x : Input). find first x.name ≡ Some x.width) (λ x. find behind x.name ≡ Some x.width) whole.inputs
        (λ x h. readable_kept cells fed first fed_rules x.name x.width h) (inputs_there s nets fit good each))
        (wires_read cells fed first fed_rules) i (nets i) (each i low))))
        (map_of_all {X = Register} {Y = Name × ℕ} (λ e. find behind e.0 ≡ Some e.1) (λ r. (r.name, r.width)) (map (copy_register f) (nets i).registers)
        (map_of_all (λ (r : Register). find behind r.name ≡ Some r.width) (copy_register f) (nets i).registers
        (all_follow (λ (r : Register). find first (f r.name) ≡ Some r.width) (λ r. find behind (f r.name) ≡ Some r.width) (nets i).registers
        (λ r h. readable_kept cells fed first fed_rules (f r.name) r.width h) (part_registers s nets fit good each i low)))))

    shapes_grow : GrowsIn (shapes (copy i)) cells
    shapes_grow =
        of_entries (λ x t. find cells x ≡ Some t) (shapes (copy i))
        (map_of_all {X = Memory} {Y = Name × (ℕ × ℕ)} (λ e. find cells e.0 ≡ Some e.1) (λ m. (m.name, (m.width, m.depth))) (map (copy_memory f) (nets i).memories)
        (map_of_all (λ (m : Memory). find cells m.name ≡ Some (m.width, m.depth)) (copy_memory f) (nets i).memories
        (of_first (λ i. (nets i).memories) copy_memory (λ (m : Memory). find cells m.name ≡ Some (m.width, m.depth)) s i
        (all_found whole.memories (whole_memories s nets fit good each)) low)))

  parts_rules : AreWires cells behind copies
  parts_rules =
      parts_wires s nets cells copy_rules shapes_grow 0 s.parts (whole_list s) behind (λ i from low. first_grows i low)
      (λ x h. (
      let there : is_among x (part_wires s nets fit good each) ≡ true = sym (ap (is_among x) (part_wires_are s nets fit good each)) ∙ h in
      let n = new x (wire_there s nets fit good each x there) in
      (fresh_after fed first x n.0 (apart_front (fed_wires s nets fit good each) (part_wires s nets fit good each) both_distinct x there), n.1)))
      (subst (λ (ns : List Name). AreDistinct ns) (sym (part_wires_are s nets fit good each))
      (distinct_second (fed_wires s nets fit good each) (part_wires s nets fit good each) both_distinct))

  pub assigns : AreWires cells first whole.wires
  assigns = wires_both cells fed copies first fed_rules parts_rules

  -- ---- registers and memories

  all_read : AllByRecursion (λ (w : Wire). find (readable whole) w.name ≡ Some w.width) fed × AllByRecursion (λ (w : Wire). find (readable whole) w.name ≡ Some w.width) copies
  all_read = all_parts (λ (w : Wire). find (readable whole) w.name ≡ Some w.width) fed copies (wires_read cells whole.wires first assigns)

  kept : (x : Name) (u : ℕ) → find first x ≡ Some u → find (readable whole) x ≡ Some u
  kept = readable_kept cells whole.wires first assigns

  module _ (i : ℕ) (low : i < length s.parts) where
    abbrev g : Name → Name
    g = in_part (part_at s i).name

    all_grows : Grows (readable (copy i)) (readable whole)
    all_grows =
        of_readable (λ x u. find (readable whole) x ≡ Some u) (copy i)
        (map_of_all (λ (x : Input). find (readable whole) x.name ≡ Some x.width) (copy_input g) (nets i).inputs
        (at_inputs s (λ x u. find (readable whole) x ≡ Some u)
        (all_follow (λ (x : Input). find first x.name ≡ Some x.width) (λ x. find (readable whole) x.name ≡ Some x.width) whole.inputs
        (λ x h. kept x.name x.width h) (inputs_there s nets fit good each))
        all_read.0 i (nets i) (each i low)))
        (map_of_all (λ (r : Register). find (readable whole) r.name ≡ Some r.width) (copy_register g) (nets i).registers
        (all_follow (λ (r : Register). find first (g r.name) ≡ Some r.width) (λ r. find (readable whole) (g r.name) ≡ Some r.width)
        (nets i).registers (λ r h. kept (g r.name) r.width h) (part_registers s nets fit good each i low)))
        (map_of_all (λ (w : Wire). find (readable whole) w.name ≡ Some w.width) (copy_wire g) (nets i).wires
        (of_first (λ i. (nets i).wires) copy_wire (λ (w : Wire). find (readable whole) w.name ≡ Some w.width) s i all_read.1 low))

    own_nexts : AllByRecursion (λ (r : Register). IsRegister (readable whole) (copy_register g r)) (nets i).registers
    own_nexts =
        all_follow (λ (r : Register). IsRegister (readable (copy i)) (copy_register g r)) (λ r. IsRegister (readable whole) (copy_register g r)) (nets i).registers
        (λ r h. (h.0, operand_grows (readable (copy i)) (readable whole) all_grows r.width (copy_register g r).next h.1))
        (all_of_map (IsRegister (readable (copy i))) (copy_register g) (nets i).registers (copy_rules i low).nexts)

    own_writes : AllByRecursion (λ (m : Memory). IsMemory (readable whole) (copy_memory g m)) (nets i).memories
    own_writes =
        all_follow (λ (m : Memory). IsMemory (readable (copy i)) (copy_memory g m)) (λ m. IsMemory (readable whole) (copy_memory g m)) (nets i).memories
        (λ m h. record {
          bits = h.bits;
          depth = h.depth;
          start = h.start;
          enable = operand_grows (readable (copy i)) (readable whole) all_grows 1 (copy_memory g m).enable h.enable;
          index = operand_grows (readable (copy i)) (readable whole) all_grows h.bits (copy_memory g m).index h.index;
          value = operand_grows (readable (copy i)) (readable whole) all_grows m.width (copy_memory g m).value h.value;
        })
        (all_of_map (IsMemory (readable (copy i))) (copy_memory g) (nets i).memories (copy_rules i low).writes)

  pub nexts : AllByRecursion (IsRegister (readable whole)) whole.registers
  nexts = to_whole s nets fit good each (IsRegister (readable whole)) (to_all (λ i. (nets i).registers) copy_register (IsRegister (readable whole)) s (λ i low. own_nexts i low))

  pub writes : AllByRecursion (IsMemory (readable whole)) whole.memories
  writes = to_all (λ i. (nets i).memories) copy_memory (IsMemory (readable whole)) s (λ i low. own_writes i low)
