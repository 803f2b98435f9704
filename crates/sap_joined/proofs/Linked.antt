-- Joined, the netlists of a system's parts are the netlist of the system.
use Rattle.sap_lemmas.proofs.Common.{◌≡◌, ℕ, zero, suc, ◌+◌, ◌<◌, Bool, true, false, List, [], ◌∷◌, ◌++◌, map, filter, get_or, length, refl, sym, ◌∙◌, ap, ap₂, subst, inl, inr, arith, append-nil, not, cases_Bool, filter-append}
use Rattle.sap_maps.specs.Maps.{Name}
use Rattle.sap_lattice.specs.Prelude.{Order, width_of}
use Rattle.sap_meaning.specs.Program.{Entity, nothing, kind_is_input, is_input, is_register, width, Program}
use Rattle.sap_net.specs.declared.parts.PortKind.TheVariants as kind
use Rattle.sap_net.specs.Prelude.{is_among, AreDistinct, Net, input_names, value_name, tag_name, top_name}
use Rattle.sap_net.specs.declared.parts.Port.{Port}
use Rattle.sap_net.specs.declared.parts.Input.{Input}
use Rattle.sap_net.specs.declared.parts.Wire.{Wire}
use Rattle.sap_net.specs.declared.parts.Register.{Register}
use Rattle.sap_net.specs.declared.parts.Memory.{Memory}
use Rattle.sap_interface.specs.Prelude.{Named, name, world, Shown, pairs_of, site_ports, ports_of}
use Rattle.sap_build.specs.Copies.{copy_port, copy_input, copy_wire, copy_register, copy_memory}
use Rattle.sap_link.specs.Systems.{Endpoint, endpoint, width_at, inputs_from, inputs_of}
use Rattle.sap_link.specs.Systems.{is_fed as is_fed_end, free_inputs as free_ends, no_part as no_program}
use Rattle.sap_linked.specs.Prelude.{Part, NamedSystem, no_part, part_at, system_of, in_part, value_at, tag_at, IsNetOf, inputs_for, ports_in, is_free, input_ports, register_ports, refusal_ports, is_fed_input, fed_inputs, InputsInOrder, AllNamesDiffer, feeds, held_ports, shown_names, linked_net, inner_names}
use Rattle.sap_linked.specs.Netlist as linked
use Rattle.sap_joined.specs.Joined.{feed_wires, copies_of, part_ports, part_inputs, part_registers, is_fed, is_free_port, is_fed_port, is_register_port, is_wire_port, as_wire, is_free_input, free_inputs, joined_ports, port_names, is_hidden, shown_first, names_within, joined}
use Rattle.sap_joined.specs.Systems.{nets_from, named_nets, feeds_of, JoinedIsLinked}
use Rattle.sap_joined.proofs.Sorting.{port, ports, copied, map_both, pairs_kept, pairs_all, pairs_none, sites_all, sites_none, as_wires, tested, declared_ports}
use Rattle.sap_joined.proofs.Feeding.{same_feeds, told}
use Rattle.sap_joined.proofs.FreeInputs.{inputs_by, inputs_are}

program_is : (o : Order) (ps : List Part) (i : ℕ) → get_or (map (λ (p : Part). p.design.program) ps) i (no_program o) ≡ (get_or ps i (no_part o)).design.program
program_is o [] zero = refl
program_is o [] (suc i) = refl
program_is o (p ∷ ps) zero = refl
program_is o (p ∷ ps) (suc i) = program_is o ps i

same_copies : {X : Type 0} (items : Net → List X) (copy : (Name → Name) → X → X) (nets : ℕ → Net) (k : ℕ) (ps : List Part)
    → linked.copies_of (λ i. items (nets i)) copy k ps ≡ copies_of items copy (nets_from nets k ps)
same_copies items copy nets k [] = refl
same_copies {X} items copy nets k (p ∷ ps) = ap (λ (xs : List X). map (copy (in_part p.name)) (items (nets k)) ++ xs) (same_copies items copy nets (suc k) ps)

shown_of : (xs : List Shown) → map (λ (x : Shown). x.0) xs ≡ port_names (map port xs)
shown_of [] = refl
shown_of (x ∷ xs) = ap (λ (ns : List Name). x.0 ∷ ns) (shown_of xs)

module _ (s : NamedSystem) (nets : ℕ → Net) (in_order : InputsInOrder) (apart : AreDistinct (input_names (linked_net s nets) ++ inner_names s nets))
    (each : (i : ℕ) → i < length s.parts → IsNetOf s.order (part_at s i) (nets i)) where
  abbrev fed : Name → Bool
  fed = is_fed (feeds_of s)

  -- these are the parts from the k-th on
  abbrev Last : ℕ → List Part → Type 0
  Last k ps = ((j : ℕ) → part_at s (k + j) ≡ get_or ps j (no_part s.order)) × (k + length ps ≡ length s.parts)

  this : (k : ℕ) (p : Part) (ps : List Part) → Last k (p ∷ ps) → (part_at s k ≡ p) × (k < length s.parts)
  this k p ps at = (
    (let from : k ≡ k + 0 = omega arith in ap (part_at s) from ∙ at.0 0),
    (let e = at.1 in omega (arith, e)),
  )

  later : (k : ℕ) (p : Part) (ps : List Part) → Last k (p ∷ ps) → Last (suc k) ps
  later k p ps at = (
    (λ j. let next : suc k + j ≡ k + suc j = omega arith in ap (part_at s) next ∙ at.0 (suc j)),
    (let e = at.1 in omega (arith, e)),
  )

  all : Last 0 s.parts
  all = ((λ j. let same : 0 + j ≡ j = omega arith in ap (part_at s) same), (let same : 0 + length s.parts ≡ length s.parts = omega arith in same))

  -- ---- ports

  module _ (i : ℕ) (low : i < length s.parts) where
    abbrev p : Part
    p = part_at s i

    abbrev d : Named
    d = p.design

    abbrev f : Name → Name
    f = in_part p.name

    abbrev own : List Port
    own = map (copy_port f) (nets i).ports

    own_are : own ≡ ports f (ports_of d p.sites)
    own_are = ap (map (copy_port f)) (declared_ports d p.sites (nets i).ports (each i low).stands.interface.declares.ports) ∙ copied f (ports_of d p.sites)

    free_own : filter (is_free_port fed) own ≡ ports f (pairs_of (is_free s.wires p i) kind.Input d 0 (world d).entities)
    free_own =
        let test = is_free_port fed in
        ap (filter test) own_are
        ∙ tested test f d p.sites (ports f (pairs_of (is_free s.wires p i) kind.Input d 0 (world d).entities)) [] []
        (pairs_kept test f kind.Input d (is_input (world d)) (is_free s.wires p i)
        (λ x t. let r = told s nets in_order apart i x low t in let a = r.0 in let b = r.1 in (rw (t, a) refl, rw (t, b) refl)) (λ x q. rw q refl) 0 (world d).entities)
        (pairs_none test f kind.Register d (is_register (world d)) (λ z. refl) (world d).entities)
        (sites_none test f (λ z. refl) 1 p.sites)
        ∙ append-nil _ ∙ append-nil _

    fed_own : map as_wire (filter (is_fed_port fed) own) ≡ ports f (pairs_of (is_fed_input s.wires p i) kind.Wire d 0 (world d).entities)
    fed_own =
        let test = is_fed_port fed in
        ap (map as_wire)
        (ap (filter test) own_are
        ∙ tested test f d p.sites (ports f (pairs_of (is_fed_input s.wires p i) kind.Input d 0 (world d).entities)) [] []
        (pairs_kept test f kind.Input d (is_input (world d)) (is_fed_input s.wires p i)
        (λ x t. let r = told s nets in_order apart i x low t in let a = r.0 in let b = r.1 in (rw (t, a) refl, rw (t, b) refl)) (λ x q. rw q refl) 0 (world d).entities)
        (pairs_none test f kind.Register d (is_register (world d)) (λ z. refl) (world d).entities)
        (sites_none test f (λ z. refl) 1 p.sites)
        ∙ append-nil _ ∙ append-nil _)
        ∙ as_wires f d (is_fed_input s.wires p i) kind.Input 0 (world d).entities

    registers_own : filter is_register_port own ≡ ports f (pairs_of (is_register (world d)) kind.Register d 0 (world d).entities)
    registers_own =
        ap (filter is_register_port) own_are
        ∙ tested is_register_port f d p.sites [] (ports f (pairs_of (is_register (world d)) kind.Register d 0 (world d).entities)) []
        (pairs_none is_register_port f kind.Input d (is_input (world d)) (λ z. refl) (world d).entities)
        (pairs_all is_register_port f kind.Register d (is_register (world d)) (λ z. refl) (world d).entities)
        (sites_none is_register_port f (λ z. refl) 1 p.sites)
        ∙ append-nil _

    wires_own : filter is_wire_port own ≡ ports f (site_ports 1 p.sites)
    wires_own =
        ap (filter is_wire_port) own_are
        ∙ tested is_wire_port f d p.sites [] [] (ports f (site_ports 1 p.sites))
        (pairs_none is_wire_port f kind.Input d (is_input (world d)) (λ z. refl) (world d).entities)
        (pairs_none is_wire_port f kind.Register d (is_register (world d)) (λ z. refl) (world d).entities)
        (sites_all is_wire_port f (λ z. refl) 1 p.sites)

  -- what is taken of the ports of each part is taken of those of all
  module _ (of : List Port → List Port) (nothing_of : of [] ≡ []) (both : (xs ys : List Port) → of (xs ++ ys) ≡ of xs ++ of ys)
      (per : ℕ → Part → List Shown) (sum : ℕ → List Part → List Shown) (empty : (k : ℕ)
      → sum k [] ≡ []) (more : (k : ℕ) (q : Part) (ps : List Part) → sum k (q ∷ ps) ≡ per k q ++ sum (suc k) ps)
      (one : (i : ℕ) → i < length s.parts → of (map (copy_port (in_part (part_at s i).name)) (nets i).ports) ≡ map port (per i (part_at s i))) where
    of_all : (k : ℕ) (ps : List Part) → Last k ps → map port (sum k ps) ≡ of (part_ports (nets_from nets k ps))
    of_all k [] at = ap (map port) (empty k) ∙ sym nothing_of
    of_all k (q ∷ ps) at =
        let here = this k q ps at in
        let own : of (map (copy_port (in_part q.name)) (nets k).ports) ≡ map port (per k q) =
        subst (λ (r : Part). of (map (copy_port (in_part r.name)) (nets k).ports) ≡ map port (per k r)) here.0 (one k here.1) in
        ap (map port) (more k q ps)
        ∙ map_both port (per k q) (sum (suc k) ps)
        ∙ ap₂ (λ (xs ys : List Port). xs ++ ys) (sym own) (of_all (suc k) ps (later k q ps at))
        ∙ sym (both (map (copy_port (in_part q.name)) (nets k).ports) (part_ports (nets_from nets (suc k) ps)))

  abbrev given : List Port
  given = part_ports (named_nets s nets)

  free_ports : map port (input_ports s.wires 0 s.parts) ≡ filter (is_free_port fed) given
  free_ports =
      of_all (filter (is_free_port fed)) refl (filter-append (is_free_port fed))
      (λ i q. ports_in q (pairs_of (is_free s.wires q i) kind.Input q.design 0 (world q.design).entities)) (input_ports s.wires)
      (λ k. refl) (λ k q ps. refl) free_own 0 s.parts all

  shown_registers : map port (register_ports s.parts) ≡ filter is_register_port given
  shown_registers =
      of_all (filter is_register_port) refl (filter-append is_register_port)
      (λ i q. ports_in q (pairs_of (is_register (world q.design)) kind.Register q.design 0 (world q.design).entities)) (λ k ps. register_ports ps)
      (λ k. refl) (λ k q ps. refl) registers_own 0 s.parts all

  shown_wires : map port (refusal_ports s.parts) ≡ filter is_wire_port given
  shown_wires =
      of_all (filter is_wire_port) refl (filter-append is_wire_port) (λ i q. ports_in q (site_ports 1 q.sites)) (λ k ps. refusal_ports ps)
      (λ k. refl) (λ k q ps. refl) wires_own 0 s.parts all

  fed_both : (xs ys : List Port) → map as_wire (filter (is_fed_port fed) (xs ++ ys)) ≡ map as_wire (filter (is_fed_port fed) xs) ++ map as_wire (filter (is_fed_port fed) ys)
  fed_both xs ys = ap (map as_wire) (filter-append (is_fed_port fed) xs ys) ∙ map_both as_wire (filter (is_fed_port fed) xs) (filter (is_fed_port fed) ys)

  fed_ports : map port (fed_inputs s.wires 0 s.parts) ≡ map as_wire (filter (is_fed_port fed) given)
  fed_ports =
      of_all (λ xs. map as_wire (filter (is_fed_port fed) xs)) refl fed_both
      (λ i q. ports_in q (pairs_of (is_fed_input s.wires q i) kind.Wire q.design 0 (world q.design).entities)) (fed_inputs s.wires)
      (λ k. refl) (λ k q ps. refl) fed_own 0 s.parts all

  pub same_ports_of : map port (held_ports s) ≡ joined_ports (named_nets s nets) (feeds_of s)
  same_ports_of =
      let a = input_ports s.wires 0 s.parts in
      let b = register_ports s.parts in
      let c = refusal_ports s.parts in
      let e = fed_inputs s.wires 0 s.parts in
      map_both port ((a ++ b) ++ c) e
      ∙ ap₂ (λ (xs ys : List Port). xs ++ ys)
      (map_both port (a ++ b) c ∙ ap₂ (λ (xs ys : List Port). xs ++ ys) (map_both port a b ∙ ap₂ (λ (xs ys : List Port). xs ++ ys) free_ports shown_registers) shown_wires)
      fed_ports

  -- ---- inputs

  abbrev free : Endpoint → Bool
  free e = not (is_fed_end s.wires e)

  for_both : (es fs : List Endpoint) → inputs_for s (es ++ fs) ≡ inputs_for s es ++ inputs_for s fs
  for_both [] fs = refl
  for_both (e ∷ es) fs =
      ap (λ (is : List Input). record { name = value_at s e; width = width_at (system_of s) e } ∷ (record { name = tag_at s e; width = width_of s.order } ∷ is)) (for_both es fs)

  module _ (i : ℕ) (low : i < length s.parts) where
    abbrev e : Named
    e = (part_at s i).design

    abbrev g : Name → Name
    g = in_part (part_at s i).name

    widths : (x : ℕ) → width (world e) x ≡ width_at (system_of s) (endpoint i x)
    widths x = ap (λ (q : Program). width q.world x) (sym (program_is s.order s.parts i))

    inputs_own : (x : ℕ) (es : List Entity) → ((j : ℕ) → get_or (world e).entities (x + j) nothing ≡ get_or es j nothing)
        → inputs_for s (filter free (map (endpoint i) (inputs_from x es))) ≡ filter (is_free_input fed) (map (copy_input g) (inputs_by e (width_of s.order) x es))
    inputs_own x [] at = refl
    inputs_own x (y ∷ es) at =
        let from : x ≡ x + 0 = omega arith in
        let same : is_input (world e) x ≡ kind_is_input y.kind =
        ap (λ (n : ℕ). kind_is_input (get_or (world e).entities n nothing).kind) from ∙ ap (λ (z : Entity). kind_is_input z.kind) (at 0) in
        let behind = λ (j : ℕ). (let next : suc x + j ≡ x + suc j = omega arith in ap (λ (n : ℕ). get_or (world e).entities n nothing) next ∙ at (suc j)) in
        let next : suc x ≡ x + 1 = omega arith in
        let rest = inputs_own (suc x) es behind ∙ ap (λ (n : ℕ). filter (is_free_input fed) (map (copy_input g) (inputs_by e (width_of s.order) n es))) next in
        elim (cases_Bool (kind_is_input y.kind)) [
          | inl t ↦
              let is : is_input (world e) x ≡ true = same ∙ t in
              let r = told s nets in_order apart i x low is in
              elim (cases_Bool (is_fed_end s.wires (endpoint i x))) [
                | inl u ↦
                    let v : fed (g (value_name (name e x))) ≡ true = r.0 ∙ u in
                    let w : fed (g (tag_name (name e x))) ≡ true = r.1 ∙ u in
                    rw (t, is, u, v, w) rest
                | inr u ↦
                    let v : fed (g (value_name (name e x))) ≡ false = r.0 ∙ u in
                    let w : fed (g (tag_name (name e x))) ≡ false = r.1 ∙ u in
                    rw (t, is, u, v, w)
                    (ap₂ (λ (n : ℕ) (is : List Input). record { name = g (value_name (name e x)); width = n }
                    ∷ (record { name = g (tag_name (name e x)); width = width_of s.order } ∷ is)) (sym (widths x)) rest)
              ]
          | inr q ↦ let is : is_input (world e) x ≡ false = same ∙ q in rw (q, is) rest
        ]

  inputs_all : (k : ℕ) (ps : List Part) → Last k ps
      → inputs_for s (filter free (inputs_of k (map (λ (q : Part). q.design.program) ps))) ≡ filter (is_free_input fed) (part_inputs (nets_from nets k ps))
  inputs_all k [] at = refl
  inputs_all k (q ∷ ps) at =
      let here = this k q ps at in
      let ends = map (endpoint k) (inputs_from 0 (world q.design).entities) in
      let rest = inputs_of (suc k) (map (λ (q : Part). q.design.program) ps) in
      let zeroth = λ (j : ℕ). (let same : 0 + j ≡ j = omega arith in ap (λ (n : ℕ). get_or (world (part_at s k).design).entities n nothing) same) in
      let there : inputs_for s (filter free (map (endpoint k) (inputs_from 0 (world (part_at s k).design).entities)))
      ≡ filter (is_free_input fed) (map (copy_input (in_part (part_at s k).name)) (nets k).inputs) =
      inputs_own k here.1 0 (world (part_at s k).design).entities zeroth
      ∙ ap (λ (is : List Input). filter (is_free_input fed) (map (copy_input (in_part (part_at s k).name)) is))
      (sym (inputs_are (part_at s k).design (width_of s.order) (part_at s k).sites (nets k) (each k here.1).netlist (each k here.1).stands.interface)) in
      let own : inputs_for s (filter free ends) ≡ filter (is_free_input fed) (map (copy_input (in_part q.name)) (nets k).inputs) =
      subst (λ (r : Part). inputs_for s (filter free (map (endpoint k) (inputs_from 0 (world r.design).entities)))
      ≡ filter (is_free_input fed) (map (copy_input (in_part r.name)) (nets k).inputs)) here.0 there in
      ap (inputs_for s) (filter-append free ends rest)
      ∙ for_both (filter free ends) (filter free rest)
      ∙ ap₂ (λ (xs ys : List Input). xs ++ ys) own (inputs_all (suc k) ps (later k q ps at))
      ∙ sym (filter-append (is_free_input fed) (map (copy_input (in_part q.name)) (nets k).inputs) (part_inputs (nets_from nets (suc k) ps)))

  pub same_inputs_of : inputs_for s (free_ends (system_of s)) ≡ free_inputs (named_nets s nets) (feeds_of s)
  same_inputs_of = inputs_all 0 s.parts all

  -- ---- all

  abbrev assembled : (shown : List Name) → List Port → List Input → List Wire → List Register → List Memory → Net
  assembled shown ps is ws rs ms =
      record {
        module_name = top_name;
        names = shown ++ filter (is_hidden (λ x. is_among x shown)) (names_within ws rs ms);
        ports = ps;
        inputs = is;
        wires = ws;
        registers = shown_first (λ x. is_among x shown) rs;
        memories = ms;
      }

  pub tied : linked_net s nets ≡ joined (width_of s.order) (named_nets s nets) (feeds_of s)
  tied =
      let ps = joined_ports (named_nets s nets) (feeds_of s) in
      let shown : shown_names s ≡ port_names ps = shown_of (held_ports s) ∙ ap port_names same_ports_of in
      let ws : feeds s s.wires ++ linked.copies_of (λ i. (nets i).wires) copy_wire 0 s.parts ≡ feed_wires (width_of s.order) (feeds_of s)
      ++ copies_of (λ n. n.wires) copy_wire (named_nets s nets) =
      ap₂ (λ (xs ys : List Wire). xs ++ ys) (same_feeds s s.wires) (same_copies (λ n. n.wires) copy_wire nets 0 s.parts) in
      let rs : linked.copies_of (λ i. (nets i).registers) copy_register 0 s.parts ≡ part_registers (named_nets s nets) =
      same_copies (λ n. n.registers) copy_register nets 0 s.parts in
      let ms : linked.copies_of (λ i. (nets i).memories) copy_memory 0 s.parts ≡ copies_of (λ n. n.memories) copy_memory (named_nets s nets) =
      same_copies (λ n. n.memories) copy_memory nets 0 s.parts in
      let is = same_inputs_of in
      let old_ws = feeds s s.wires ++ linked.copies_of (λ i. (nets i).wires) copy_wire 0 s.parts in
      let old_rs = linked.copies_of (λ i. (nets i).registers) copy_register 0 s.parts in
      let old_ms = linked.copies_of (λ i. (nets i).memories) copy_memory 0 s.parts in
      let old_is = inputs_for s (free_ends (system_of s)) in
      ap₂ (λ (ns : List Name) (qs : List Port). assembled ns qs old_is old_ws old_rs old_ms) shown same_ports_of
      ∙ ap₂ (λ (is : List Input) (ws : List Wire). assembled (port_names ps) ps is ws old_rs old_ms) is ws
      ∙ ap₂ (λ (rs : List Register) (ms : List Memory). assembled (port_names ps) ps (free_inputs (named_nets s nets) (feeds_of s))
      (feed_wires (width_of s.order) (feeds_of s) ++ copies_of (λ n. n.wires) copy_wire (named_nets s nets)) rs ms) rs ms

pub joined_is_linked : InputsInOrder → AllNamesDiffer → JoinedIsLinked
joined_is_linked in_order differ s nets fit good each = tied s nets in_order (differ s nets fit good each) each
