-- The parts of the whole, put together.
use Rattle.sap_lemmas.proofs.Common.{◌≡◌, ℕ, Bool, List, [], ◌∷◌, ◌++◌, map, filter, refl, sym, ◌∙◌, ap, ap₂, inl, inr, cases_Bool, filter-append}
use Rattle.sap_maps.specs.Maps.{Name}
use Rattle.sap_net.specs.Prelude.{is_among, Net, top_name}
use Rattle.sap_net.specs.declared.parts.Port.{Port}
use Rattle.sap_net.specs.declared.parts.Input.{Input}
use Rattle.sap_net.specs.declared.parts.Wire.{Wire}
use Rattle.sap_net.specs.declared.parts.Register.{Register}
use Rattle.sap_net.specs.declared.parts.Memory.{Memory}
use Rattle.sap_share.specs.Sets.{holds}
use Rattle.sap_build.specs.Copies.{copy_wire, copy_memory}
use Rattle.sap_joined.specs.Joined as spec
use Rattle.sap_joined.specs.Joined.{NamedNet, Feed}

-- the names of hidden registers are the hidden ones of their names
hidden_named : (shown : Name → Bool) (rs : List Register)
    → map (λ (r : Register). r.name) (filter (spec.is_hidden_register shown) rs) ≡ filter (spec.is_hidden shown) (map (λ (r : Register). r.name) rs)
hidden_named shown [] = refl
hidden_named shown (r ∷ rs) =
    elim (cases_Bool (shown r.name)) [
      | inl t ↦ rw t (hidden_named shown rs)
      | inr q ↦ rw q (ap (λ (ns : List Name). r.name ∷ ns) (hidden_named shown rs))
    ]

module _ (shown : Name → Bool) (ws : List Wire) (rs : List Register) (ms : List Memory) where
  abbrev hidden : List Name → List Name
  hidden ns = filter (spec.is_hidden shown) ns

  abbrev of_wires : List Name
  of_wires = map (λ (w : Wire). w.name) ws

  abbrev of_registers : List Name
  of_registers = map (λ (r : Register). r.name) rs

  abbrev of_memories : List Name
  of_memories = map (λ (m : Memory). m.name) ms

  hidden_parts : (hidden of_wires ++ map (λ (r : Register). r.name) (filter (spec.is_hidden_register shown) rs)) ++ hidden of_memories ≡ hidden (spec.names_within ws rs ms)
  hidden_parts =
      ap (λ (ns : List Name). (hidden of_wires ++ ns) ++ hidden of_memories) (hidden_named shown rs)
      ∙ ap (λ (ns : List Name). ns ++ hidden of_memories) (sym (filter-append (spec.is_hidden shown) of_wires of_registers))
      ∙ sym (filter-append (spec.is_hidden shown) (of_wires ++ of_registers) of_memories)

abbrev net : (module_name : Name) → List Name → List Port → List Input → List Wire → List Register → List Memory → Net
net x ns ps is ws rs ms = record { module_name = x; names = ns; ports = ps; inputs = is; wires = ws; registers = rs; memories = ms }

module _ (tag : ℕ) (parts : List NamedNet) (feeds : List Feed) where
  abbrev all_ports : List Port
  all_ports = spec.joined_ports parts feeds

  abbrev all_wires : List Wire
  all_wires = spec.feed_wires tag feeds ++ spec.copies_of (λ n. n.wires) copy_wire parts

  abbrev all_registers : List Register
  all_registers = spec.part_registers parts

  abbrev all_memories : List Memory
  all_memories = spec.copies_of (λ n. n.memories) copy_memory parts

  abbrev is_shown : Name → Bool
  is_shown x = is_among x (spec.port_names all_ports)

  pub whole_is : (fed shown : List Name) (x : Name) (names : List Name) (ports : List Port) (inputs : List Input) (wires : List Wire)
      (first last registers : List Register) (memories : List Memory)
      → fed ≡ spec.fed_names feeds → ports ≡ spec.ports_by (holds fed) (spec.part_ports parts) → inputs ≡ filter (spec.is_free_input (holds fed)) (spec.part_inputs parts)
      → shown ≡ spec.port_names ports → wires ≡ all_wires
      → first ≡ filter (spec.is_shown_register (holds shown)) all_registers → last ≡ filter (spec.is_hidden_register (holds shown)) all_registers → registers ≡ first ++ last
      → memories ≡ all_memories
      → names ≡ spec.port_names ports ++ ((filter (spec.is_hidden (holds shown)) (map (λ (w : Wire). w.name) wires)
      ++ map (λ (r : Register). r.name) last) ++ filter (spec.is_hidden (holds shown)) (map (λ (m : Memory). m.name) memories))
      → x ≡ top_name → net x names ports inputs wires registers memories ≡ spec.joined tag parts feeds
  whole_is fed shown x names ports inputs wires first last registers memories fed_is ports_are inputs_are shown_is wires_are first_is
      last_is registers_are memories_are names_are top =
      let f : holds fed ≡ spec.is_fed feeds = ap (λ (xs : List Name). holds xs) fed_is in
      let ps : ports ≡ all_ports = ports_are ∙ ap (λ (t : Name → Bool). spec.ports_by t (spec.part_ports parts)) f in
      let is : inputs ≡ spec.free_inputs parts feeds = inputs_are ∙ ap (λ (t : Name → Bool). filter (spec.is_free_input t) (spec.part_inputs parts)) f in
      let h : holds shown ≡ is_shown = ap (λ (xs : List Name). holds xs) (shown_is ∙ ap spec.port_names ps) in
      let first_are : first ≡ filter (spec.is_shown_register is_shown) all_registers = first_is ∙ ap (λ (t : Name → Bool). filter (spec.is_shown_register t) all_registers) h in
      let last_are : last ≡ filter (spec.is_hidden_register is_shown) all_registers = last_is ∙ ap (λ (t : Name → Bool). filter (spec.is_hidden_register t) all_registers) h in
      let rs : registers ≡ spec.shown_first is_shown all_registers = registers_are ∙ ap₂ (λ (xs ys : List Register). xs ++ ys) first_are last_are in
      let ns_wires : filter (spec.is_hidden (holds shown)) (map (λ (w : Wire). w.name) wires) ≡ filter (spec.is_hidden is_shown) (map (λ (w : Wire). w.name) all_wires) =
      ap₂ (λ (t : Name → Bool) (ws : List Wire). filter (spec.is_hidden t) (map (λ (w : Wire). w.name) ws)) h wires_are in
      let ns_memories : filter (spec.is_hidden (holds shown)) (map (λ (m : Memory). m.name) memories)
      ≡ filter (spec.is_hidden is_shown) (map (λ (m : Memory). m.name) all_memories) =
      ap₂ (λ (t : Name → Bool) (ms : List Memory). filter (spec.is_hidden t) (map (λ (m : Memory). m.name) ms)) h memories_are in
      let within =
      ap₂ (λ (xs ys : List Name). xs ++ ys) (ap₂ (λ (xs ys : List Name). xs ++ ys) ns_wires (ap (map (λ (r : Register). r.name)) last_are)) ns_memories
      ∙ hidden_parts is_shown all_wires all_registers all_memories in
      let ns : names ≡ spec.port_names all_ports ++ filter (spec.is_hidden is_shown) (spec.names_within all_wires all_registers all_memories) =
      names_are ∙ ap₂ (λ (xs ys : List Name). xs ++ ys) (ap spec.port_names ps) within in
      ap₂ (λ (y : Name) (zs : List Name). net y zs ports inputs wires registers memories) top ns
      ∙ ap₂ (λ (qs : List Port) (js : List Input). net top_name (spec.joined tag parts feeds).names qs js wires registers memories) ps is
      ∙ ap₂ (λ (us : List Wire) (qs : List Register). net top_name (spec.joined tag parts feeds).names all_ports (spec.free_inputs parts feeds) us qs memories) wires_are rs
      ∙ ap (λ (ms : List Memory). net top_name (spec.joined tag parts feeds).names all_ports (spec.free_inputs parts feeds) all_wires
      (spec.shown_first is_shown all_registers) ms) memories_are
