-- The registers and memories of the netlist of a system stand in the order of its names.
use Rattle.sap_lemmas.proofs.Common.{◌≡◌, ℕ, suc, Bool, true, false, not, ◌<◌, List, [], ◌∷◌, ◌++◌, map, filter, length, take, drop, refl, sym, ◌∙◌, ap, ap₂, subst, inl, inr, arith, and_parts, append-nil, take-append-drop, filter-append}
use Rattle.sap_maps.specs.Maps.{Name}
use Rattle.sap_net.specs.Prelude.{is_among, AreDistinct, Net, register_names}
use Rattle.sap_net.specs.declared.parts.Register.{Register}
use Rattle.sap_net.proofs.NamesLemmas.{among_behind, among_front, distinct_both, filter_among, filter_distinct}
use Rattle.sap_interface.specs.Interface.{site_ports}
use Rattle.sap_link.specs.Systems.{WiresFit}
use Rattle.sap_linked.specs.Prelude.{Part, NamedSystem, part_at, system_of, in_part, NamesFit, IsNetOf, linked_net, shown_names}
use Rattle.sap_linked.proofs.Differing.{registers_in, registers_long}
use Rattle.sap_linked.proofs.Families.{among_copies, later, map_both, named_copies, of_among, of_map, one_part, this, whole_list, Suffix}
use Rattle.sap_linked.proofs.Inputs.{input_names_are}
use Rattle.sap_linked.proofs.Parted.{absent, all_pass, both_among, contradicted, distinct_front, either, filter_alike, filter_named, filter_swap, none_pass}
use Rattle.sap_linked.proofs.PartNames.{input_no_register, wire_no_register}
use Rattle.sap_linked.proofs.Ports.{block_in, names_in, registers_of}
use Rattle.sap_linked.proofs.Showing.{all_inner, all_inputs, all_memories, all_registers, all_wires, fed_there, feed_shown_there, input_no_inner, input_shown_there, inputs_shown, memory_inner, no_wire_or_register, own_names, own_parts, own_registers, own_split, part_register, register_inner, register_no_wire, register_shown_there, registers_copied, registers_shown_are, registers_shown_in, shown_are, shown_feeds, shown_inputs, shown_registers, shown_sites, site_shown_there, sites_shown_in, wire_there, inner_distinct}
use Rattle.sap_linked.proofs.Wider.{apart_front, distinct_second}

abbrev both : List Name → List Name → List Name
both xs ys = xs ++ ys

module _ (s : NamedSystem) (nets : ℕ → Net) (fit : NamesFit s) (good : WiresFit (system_of s)) (each : (i : ℕ) → i < length s.parts → IsNetOf s.order (part_at s i) (nets i)) where
  abbrev inputs : List Name
  inputs = all_inputs s nets fit good each

  abbrev wires : List Name
  wires = all_wires s nets fit good each

  abbrev registers : List Name
  registers = all_registers s nets fit good each

  abbrev memories : List Name
  memories = all_memories s nets fit good each

  abbrev all : List Name
  all = all_inner s nets fit good each

  abbrev is_shown : Name → Bool
  is_shown x = is_among x (shown_names s)

  abbrev is_hidden : Name → Bool
  is_hidden x = not (is_among x (shown_names s))

  abbrev in_all : Name → Bool
  in_all x = is_among x registers

  abbrev pub whole_registers : List Name
  whole_registers = register_names (linked_net s nets)

  pub whole_registers_are : whole_registers ≡ filter is_shown registers ++ filter is_hidden registers
  whole_registers_are =
      map_both (λ (r : Register). r.name) (filter (λ (r : Register). is_among r.name (shown_names s)) (own_registers s nets fit good each))
      (filter (λ (r : Register). not (is_among r.name (shown_names s))) (own_registers s nets fit good each))
      ∙ ap₂ both (filter_named (λ (r : Register). r.name) is_shown (own_registers s nets fit good each))
      (filter_named (λ (r : Register). r.name) is_hidden (own_registers s nets fit good each))

  pub same_registers : (x : Name) → is_among x whole_registers ≡ is_among x registers
  same_registers x = ap (is_among x) whole_registers_are ∙ both_among is_shown registers x

  -- those that are shown and the others have no name in common
  parted : (x : Name) → is_among x (filter is_shown registers) ≡ true → is_among x (filter is_hidden registers) ≡ true → ⊥
  parted x h k =
      let yes = (and_parts (is_among x registers) (is_shown x) (sym (filter_among is_shown registers x) ∙ h)).1 in
      let no = (and_parts (is_among x registers) (is_hidden x) (sym (filter_among is_hidden registers x) ∙ k)).1 in
      neither (is_shown x) yes no
    where
      neither : (b : Bool) → b ≡ true → not b ≡ true → ⊥
      neither b h k = cc

  pub whole_registers_distinct : AreDistinct whole_registers
  whole_registers_distinct =
      let own = distinct_second wires registers (distinct_front (wires ++ registers) memories (inner_distinct s nets fit good each)) in
      subst (λ (ns : List Name). AreDistinct ns) (sym whole_registers_are)
      (distinct_both (filter is_shown registers) (filter is_hidden registers) (filter_distinct is_shown registers own)
      (filter_distinct is_hidden registers own) (λ x h. absent x (filter is_hidden registers) (parted x h)))

  -- ---- among the names that are shown

  input_hidden : (x : Name) → is_among x (shown_inputs s nets fit good each) ≡ true → in_all x ≡ false
  input_hidden x h = absent x registers (λ k. input_no_inner s nets fit good each x (input_shown_there s nets fit good each x h) (register_inner s nets fit good each x k))

  site_hidden : (x : Name) → is_among x (shown_sites s nets fit good each) ≡ true → in_all x ≡ false
  site_hidden x h = absent x registers (λ k. register_no_wire s nets fit good each x k (wire_there s nets fit good each x (site_shown_there s nets fit good each x h)))

  feed_hidden : (x : Name) → is_among x (shown_feeds s nets fit good each) ≡ true → in_all x ≡ false
  feed_hidden x h = absent x registers (λ k. register_no_wire s nets fit good each x k (fed_there s nets fit good each x (feed_shown_there s nets fit good each x h)))

  shown_part : filter in_all (shown_names s) ≡ shown_registers s nets fit good each
  shown_part =
      let i = shown_inputs s nets fit good each in
      let r = shown_registers s nets fit good each in
      let t = shown_sites s nets fit good each in
      let f = shown_feeds s nets fit good each in
      ap (filter in_all) (shown_are s nets fit good each)
      ∙ filter-append in_all (i ++ r ++ t) f
      ∙ ap₂ both
      (filter-append in_all (i ++ r) t
      ∙ ap₂ both (filter-append in_all i r ∙ ap₂ both (none_pass in_all i input_hidden)
      (all_pass in_all r (register_shown_there s nets fit good each))) (none_pass in_all t site_hidden))
      (none_pass in_all f feed_hidden)
      ∙ append-nil (r ++ [])
      ∙ append-nil r

  -- ---- the registers of a part

  module _ (i : ℕ) (low : i < length s.parts) where
    abbrev own : List Name
    own = registers_in s nets fit good each i

    abbrev is_own : Name → Bool
    is_own x = is_among x own

    abbrev taken : List Name
    taken = take (length (nets i).ports) (nets i).names

    abbrev left : List Name
    left = drop (length (nets i).ports) (nets i).names

    abbrev f : Name → Name
    f = in_part (part_at s i).name

    abbrev in_front : List Name
    in_front = names_in (inputs_shown s nets fit good each i low)

    abbrev here : List Name
    here = block_in s registers_of i

    abbrev at_sites : List Name
    at_sites = names_in (site_ports 1 (part_at s i).sites)

    taken_are : taken ≡ in_front ++ here ++ at_sites
    taken_are = sym (own_names s nets fit good each i low) ∙ own_parts s nets fit good each i low

    no_own_input : (x : Name) → is_among x in_front ≡ true → is_own x ≡ false
    no_own_input x h =
        absent x own (λ k.
        let same = input_names_are (part_at s i).design (part_at s i).sites (nets i) (each i low).netlist (each i low).stands.interface.declares.ports in
        input_no_register (nets i) (each i low).netlist x (ap (is_among x) same ∙ h) k)

    no_own_site : (x : Name) → is_among x at_sites ≡ true → is_own x ≡ false
    no_own_site x h = absent x own (λ k. wire_no_register (nets i) (each i low).netlist x (sites_shown_in s nets fit good each i low x h) k)

    own_taken : filter is_own taken ≡ here
    own_taken =
        ap (filter is_own) taken_are
        ∙ filter-append is_own (in_front ++ here) at_sites
        ∙ ap₂ both
        (filter-append is_own in_front here ∙ ap₂ both (none_pass is_own in_front no_own_input) (all_pass is_own here (registers_shown_in s nets fit good each i low)))
        (none_pass is_own at_sites no_own_site)
        ∙ append-nil here

    own_are : own ≡ here ++ filter is_own left
    own_are =
        sym (each i low).netlist.registers_in_order
        ∙ ap (filter is_own) (sym (take-append-drop (length (nets i).ports) (nets i).names))
        ∙ filter-append is_own taken left
        ∙ ap (λ (ns : List Name). ns ++ filter is_own left) own_taken

    there : (x : Name) → is_among x here ≡ true → is_among (f x) (shown_registers s nets fit good each) ≡ true
    there x h = ap (is_among (f x)) (registers_shown_are s nets fit good each) ∙ among_copies s (block_in s registers_of) 0 s.parts (whole_list s) i (omega arith) low x h

    here_shown : (x : Name) → is_among x here ≡ true → is_shown (f x) ≡ true
    here_shown x h =
        let t = there x h in
        let a = shown_inputs s nets fit good each in
        let b = shown_registers s nets fit good each in
        let c = shown_sites s nets fit good each in
        ap (is_among (f x)) (shown_are s nets fit good each)
        ∙ among_front (f x) (a ++ b ++ c) (shown_feeds s nets fit good each) (among_front (f x) (a ++ b) c (among_behind (f x) a b t))

    not_here : (x : Name) → is_among x (filter is_own left) ≡ true → is_among (f x) (shown_registers s nets fit good each) ≡ true → ⊥
    not_here x h k =
        let two = and_parts (is_among x left) (is_own x) (sym (filter_among is_own left x) ∙ h) in
        let b = of_among s (block_in s registers_of) 0 s.parts (whole_list s) (f x) (sym (ap (is_among (f x)) (registers_shown_are s nets fit good each)) ∙ k) in
        let far = registers_long s nets fit good each b.part b.low b.name (registers_shown_in s nets fit good each b.part b.low b.name b.is) in
        let r = one_part s fit i b.part x b.name low b.low (registers_long s nets fit good each i low x two.1) far b.behind in
        let back : is_among x here ≡ true = subst (λ (n : Name). is_among n here ≡ true) (sym r.1)
        (subst (λ (j : ℕ). is_among b.name (block_in s registers_of j) ≡ true) (sym r.0) b.is) in
        let yes : is_among x taken ≡ true = ap (is_among x) taken_are ∙ among_front x (in_front ++ here) at_sites (among_behind x in_front here back) in
        contradicted (is_among x taken) (apart_front taken left (own_split s nets fit good each i low) x two.0) yes

    rest_hidden : (x : Name) → is_among x (filter is_own left) ≡ true → is_shown (f x) ≡ false
    rest_hidden x h =
        let two = and_parts (is_among x left) (is_own x) (sym (filter_among is_own left x) ∙ h) in
        let z = f x in
        let in_r = part_register s nets fit good each i low x two.1 in
        let a = shown_inputs s nets fit good each in
        let b = shown_registers s nets fit good each in
        let c = shown_sites s nets fit good each in
        absent z (shown_names s) (λ k. elim (either (a ++ b ++ c) (shown_feeds s nets fit good each) z (sym (ap (is_among z) (shown_are s nets fit good each)) ∙ k)) [
          | inl l ↦ elim (either (a ++ b) c z l) [
            | inl m ↦ elim (either a b z m) [
              | inl n ↦ contradicted (in_all z) (input_hidden z n) in_r
              | inr n ↦ not_here x h n
            ]
            | inr m ↦ contradicted (in_all z) (site_hidden z m) in_r
          ]
          | inr l ↦ contradicted (in_all z) (feed_hidden z l) in_r
        ])

    own_filtered : filter is_shown (map f own) ≡ map f here
    own_filtered =
        ap (λ (ns : List Name). filter is_shown (map f ns)) own_are
        ∙ ap (filter is_shown) (map_both f here (filter is_own left))
        ∙ filter-append is_shown (map f here) (map f (filter is_own left))
        ∙ ap₂ both
        (all_pass is_shown (map f here) (λ z h. let m = of_map f here z h in subst (λ (y : Name). is_shown y ≡ true) (sym m.2) (here_shown m.0 m.1)))
        (none_pass is_shown (map f (filter is_own left)) (λ z h. let m = of_map f (filter is_own left) z h in
        subst (λ (y : Name). is_shown y ≡ false) (sym m.2) (rest_hidden m.0 m.1)))
        ∙ append-nil (map f here)

  filtered : (k : ℕ) (ps : List Part) → Suffix s k ps → filter is_shown (named_copies (registers_in s nets fit good each) k ps) ≡ named_copies (block_in s registers_of) k ps
  filtered k [] at = refl
  filtered k (p ∷ ps) at =
      let low : k < length s.parts = (let e = at.1 in omega (arith, e)) in
      filter-append is_shown (map (in_part p.name) (registers_in s nets fit good each k)) (named_copies (registers_in s nets fit good each) (suc k) ps)
      ∙ ap₂ both
      (subst (λ (q : Part). filter is_shown (map (in_part q.name) (registers_in s nets fit good each k))
      ≡ map (in_part q.name) (block_in s registers_of k)) (this s k p ps at) (own_filtered k low))
      (filtered (suc k) ps (later s k p ps at))

  registers_in_front : filter is_shown registers ≡ shown_registers s nets fit good each
  registers_in_front =
      ap (filter is_shown) (registers_copied s nets fit good each) ∙ filtered 0 s.parts (whole_list s) ∙ sym (registers_shown_are s nets fit good each)

  -- ---- among all

  of_inner : filter in_all all ≡ registers
  of_inner =
      filter-append in_all (wires ++ registers) memories
      ∙ ap₂ both
      (filter-append in_all wires registers ∙ ap₂ both
      (none_pass in_all wires (λ x h. absent x registers (λ k. register_no_wire s nets fit good each x k h))) (all_pass in_all registers (λ x h. h)))
      (none_pass in_all memories (λ x h. absent x registers
      (λ k. contradicted (is_among x (wires ++ registers)) (no_wire_or_register s nets fit good each x h) (among_behind x wires registers k))))
      ∙ append-nil registers

  pub registers_in_order : filter (λ x. is_among x whole_registers) (linked_net s nets).names ≡ whole_registers
  registers_in_order =
      filter_alike (λ x. is_among x whole_registers) in_all (linked_net s nets).names same_registers
      ∙ filter-append in_all (shown_names s) (filter is_hidden all)
      ∙ ap₂ both (shown_part ∙ sym registers_in_front) (filter_swap in_all is_hidden all ∙ ap (filter is_hidden) of_inner)
      ∙ sym whole_registers_are

  -- ---- memories

  abbrev is_memory : Name → Bool
  is_memory x = is_among x memories

  of_inner_memories : filter is_memory all ≡ memories
  of_inner_memories =
      filter-append is_memory (wires ++ registers) memories
      ∙ ap₂ both (none_pass is_memory (wires ++ registers)
      (λ x h. absent x memories (λ k. contradicted (is_among x (wires ++ registers)) (no_wire_or_register s nets fit good each x k) h)))
      (all_pass is_memory memories (λ x h. h))

  -- what is shown is an input, a wire or a register
  pub shown_is : (x : Name) → is_shown x ≡ true → is_among x (inputs ++ (wires ++ registers)) ≡ true
  shown_is x h =
      let a = shown_inputs s nets fit good each in
      let b = shown_registers s nets fit good each in
      let c = shown_sites s nets fit good each in
      elim (either (a ++ b ++ c) (shown_feeds s nets fit good each) x (sym (ap (is_among x) (shown_are s nets fit good each)) ∙ h)) [
        | inl l ↦ elim (either (a ++ b) c x l) [
          | inl m ↦ elim (either a b x m) [
            | inl n ↦ among_front x inputs (wires ++ registers) (input_shown_there s nets fit good each x n)
            | inr n ↦ among_behind x inputs (wires ++ registers) (among_behind x wires registers (register_shown_there s nets fit good each x n))
          ]
          | inr m ↦ among_behind x inputs (wires ++ registers) (among_front x wires registers (wire_there s nets fit good each x (site_shown_there s nets fit good each x m)))
        ]
        | inr l ↦ among_behind x inputs (wires ++ registers) (among_front x wires registers (fed_there s nets fit good each x (feed_shown_there s nets fit good each x l)))
      ]

  memory_hidden : (x : Name) → is_memory x ≡ true → is_shown x ≡ true → ⊥
  memory_hidden x h k = elim (either inputs (wires ++ registers) x (shown_is x k)) [
    | inl i ↦ input_no_inner s nets fit good each x i (memory_inner s nets fit good each x h)
    | inr o ↦ contradicted (is_among x (wires ++ registers)) (no_wire_or_register s nets fit good each x h) o
  ]

  pub memories_in_order : filter (λ x. is_among x memories) (linked_net s nets).names ≡ memories
  memories_in_order =
      filter-append is_memory (shown_names s) (filter is_hidden all)
      ∙ ap₂ both
      (none_pass is_memory (shown_names s) (λ x h. absent x memories (λ k. memory_hidden x k h)))
      (filter_swap is_memory is_hidden all ∙ ap (filter is_hidden) of_inner_memories ∙ all_pass is_hidden memories (λ x h. hides x (absent x (shown_names s) (memory_hidden x h))))
    where
      hides : (x : Name) → is_shown x ≡ false → is_hidden x ≡ true
      hides x h = rw h refl
