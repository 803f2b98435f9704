-- A netlist that is alike to one that stands for a design stands for it too.
use Rattle.sap_lemmas.proofs.Common.{◌≡◌, ◌⊎◌, ℕ, List, [], ◌∷◌, ◌++◌, map, true, false, Some, inl, inr, sym, ap, ap₂, ◌∙◌, subst, length, unwrap_or, option_map, Option, AllByRecursion, AllZip, cases_Bool, all_of_map, map_of_all}
use Rattle.sap_net.proofs.NamesLemmas.{among_behind, among_front, each_among, among_each, found_of}
use Rattle.sap_maps.specs.Prelude.{Name, Valuation, find}
use Rattle.sap_meaning.specs.Prelude.{Tagged, Store, After, Refusal, StreamFits, labelled_run}
use Rattle.sap_net.specs.Prelude.{is_among, IsHelpingName, Net, IsNetlist, PortShows, input_names, wire_names, register_names, memory_names, first_readable, shapes, width_of, SomeRun, AllFit, observed}
use Rattle.sap_net.specs.declared.parts.PortKind.{PortKind}
use Rattle.sap_net.specs.declared.parts.Port.{Port}
use Rattle.sap_net.specs.declared.parts.Input.{Input}
use Rattle.sap_net.specs.declared.parts.Wire.{Wire}
use Rattle.sap_net.specs.declared.parts.Register.{Register}
use Rattle.sap_net.specs.declared.parts.Memory.{Memory}
use Rattle.sap_net.specs.declared.parts.PortKind.TheVariants as kind
use Rattle.sap_trim.specs.Alike.{DeclaresAlike, ShowsAlike, RunsAlike}
use Rattle.sap_trim.specs.Names.{helper, port_names, lasting_names, helping_wires, NoneNumbered}
use Rattle.sap_trim.specs.Trimmed.{NumbersWires}
use Rattle.sap_interface.specs.Prelude.{Named, world, StandsFor, IsInterfaceName, Shown, HasInterface, declared_by, ports_of, coded_stream, CyclesStand, NetStandsFor}
use Rattle.sap_tagged.proofs.Members.{In}
use Rattle.sap_compile.proofs.stages.Ports.{ports_named}
use Rattle.sap_compile.proofs.stages.Carried.{Carries, interface_carried, stands_carried}
use Rattle.sap_compile.proofs.stages.Found.{Shape, Stored, shape_of, wire_widths, at_found, width_found, memory_shapes}
use Rattle.sap_compile.proofs.stages.Declared.{Kept, of_port, of_port_name, of_wire_name, same_registers, same_memories, wire_read}
use Rattle.sap_compile.proofs.stages.Helping.{among_either, numbered_helping, helping_there}

-- the ports that a netlist shows, where it has an interface

abbrev pub shown_ports : Net → List Shown
shown_ports n = map (λ p. (p.name, p.kind)) n.ports

-- each helping wire is named an n and a number
abbrev pub HelpersNamed : Net → Type 0
HelpersNamed n = AllByRecursion (λ w. IsHelpingName w.name) (helping_wires n)

pub port_named : (d : Named) (sites : ℕ) (n : Net) → shown_ports n ≡ ports_of d sites → (x : Name) → is_among x (port_names n) ≡ true → IsInterfaceName d sites x
port_named d sites n e x h =
    of_port_name (λ (y : Name). IsInterfaceName d sites y) n.ports
    (all_of_map (λ (q : Shown). IsInterfaceName d sites q.0) (λ (p : Port). (p.name, p.kind)) n.ports
    (subst (λ (qs : List Shown). AllByRecursion (λ q. IsInterfaceName d sites q.0) qs) (sym e) (ports_named d sites)))
    x h

-- of two netlists that declare alike
module _ (given result : Net) (before : IsNetlist given) (after : IsNetlist result) (declares : DeclaresAlike given result) where
  same_ports : shown_ports result ≡ shown_ports given
  same_ports = ap (λ (ps : List Port). map {B = Shown} (λ p. (p.name, p.kind)) ps) declares.ports

  same_register_names : register_names result ≡ register_names given
  same_register_names = same_registers given.registers result.registers declares.registers

  same_memory_names : memory_names result ≡ memory_names given
  same_memory_names = same_memories given.memories result.memories declares.memories

  wire_width : (n : Net) → IsNetlist n → (x : Name) (u : ℕ) → find (wire_widths n.wires) x ≡ Some u → width_of n x ≡ u
  wire_width n rules x u h = ap (λ (o : Option ℕ). unwrap_or o 0) (wire_read (shapes n) n.wires (first_readable n) rules.assigns x u h)

  has_wire : (x : Name) (u : ℕ) → In (shown_ports given) (x, kind.Wire) → find (wire_widths given.wires) x ≡ Some u → find (wire_widths result.wires) x ≡ Some u
  has_wire x u port h =
      let p : In (shown_ports result) (x, kind.Wire) = subst (λ (qs : List Shown). In qs (x, kind.Wire)) (sym same_ports) port in
      let w = found_of (λ (y : Wire). y.name) (λ (y : Wire). y.width) result.wires x (of_port (PortShows result) result.ports x kind.Wire after.ports_show p) in
      let same : width_of result x ≡ width_of given x = of_port (λ (k : PortKind) (y : Name). width_of result y ≡ width_of given y) given.ports x kind.Wire declares.widths port in
      let e : w.0 ≡ u = sym (wire_width result after x w.0 w.1) ∙ same ∙ wire_width given before x u h in
      w.1 ∙ ap (λ (k : ℕ). Some k) e

  same_register : (x : Name) → find (declared_by result).registers x ≡ find (declared_by given).registers x
  same_register x =
      width_found (λ (r : Register). r.name) (λ (r : Register). r.width) (λ (r : Register). r.start) result.registers x
      ∙ ap (λ (ks : List Kept). option_map (λ (q : Shape). q.0) (find ks x)) declares.registers
      ∙ sym (width_found (λ (r : Register). r.name) (λ (r : Register). r.width) (λ (r : Register). r.start) given.registers x)

  carries : Carries (declared_by given) (declared_by result)
  carries = record {
    ports = same_ports;
    inputs = ap (λ (is : List Input). map {B = Name × ℕ} (λ i. (i.name, i.width)) is) declares.inputs;
    registers = same_register;
    memories = sym (memory_shapes result.memories) ∙ ap (λ (qs : List Stored). map shape_of qs) declares.memories ∙ memory_shapes given.memories;
    wires = has_wire;
  }

  -- names

  same_lasting : lasting_names result ≡ lasting_names given
  same_lasting =
      ap₂ (λ (xs ys : List Name). xs ++ ys) (ap (λ (ps : List Port). map (λ (p : Port). p.name) ps) declares.ports)
      (ap₂ (λ (xs ys : List Name). xs ++ ys) same_register_names same_memory_names)

  pub helpers_named : NoneNumbered given → NumbersWires result → HelpersNamed result
  helpers_named none numbers =
      let named = numbers (λ k. ap (λ (ns : List Name). is_among (helper k) ns) same_lasting ∙ none k) in
      all_of_map IsHelpingName (λ (w : Wire). w.name) (helping_wires result)
      (subst (λ (ns : List Name). AllByRecursion IsHelpingName ns) (sym named) (each_among IsHelpingName _ (numbered_helping (length (helping_wires result)))))

  input_given : (x : Name) → is_among x (input_names result) ≡ true → is_among x given.names ≡ true
  input_given x h =
      before.declared x
      ∙ among_front x (input_names given ++ wire_names given ++ register_names given) (memory_names given)
      (among_front x (input_names given ++ wire_names given) (register_names given)
      (among_front x (input_names given) (wire_names given) (subst (λ (is : List Input). is_among x (map (λ (i : Input). i.name) is) ≡ true) declares.inputs h)))

  register_given : (x : Name) → is_among x (register_names result) ≡ true → is_among x given.names ≡ true
  register_given x h =
      before.declared x
      ∙ among_front x (input_names given ++ wire_names given ++ register_names given) (memory_names given)
      (among_behind x (input_names given ++ wire_names given) (register_names given) (subst (λ (ns : List Name). is_among x ns ≡ true) same_register_names h))

  memory_given : (x : Name) → is_among x (memory_names result) ≡ true → is_among x given.names ≡ true
  memory_given x h =
      before.declared x
      ∙ among_behind x (input_names given ++ wire_names given ++ register_names given) (memory_names given) (subst (λ (ns : List Name). is_among x ns ≡ true) same_memory_names h)

  wire_helping : HelpersNamed result → (x : Name) → is_among x (port_names result) ≡ false → is_among x (wire_names result) ≡ true → IsHelpingName x
  wire_helping named x f h = of_wire_name IsHelpingName (helping_wires result) named x (helping_there (port_names result) result.wires x f h)

  -- the design

  module _ (d : Named) (tag sites : ℕ) (from : NetStandsFor d tag sites given) where
    abbrev IsNamed : Name → Type 0
    IsNamed x = IsInterfaceName d sites x ⊎ IsHelpingName x

    of_given : (x : Name) → is_among x given.names ≡ true → IsNamed x
    of_given x h = among_each (λ (y : Name). IsInterfaceName d sites y ⊎ IsHelpingName y) given.names from.interface.names x h

    wire_is : HelpersNamed result → (x : Name) → is_among x (wire_names result) ≡ true → IsNamed x
    wire_is named x h =
        elim (cases_Bool (is_among x (port_names result))) [
          | inl p ↦ inl (port_named d sites result (same_ports ∙ from.interface.declares.ports) x p)
          | inr f ↦ inr (wire_helping named x f h)
        ]

    name_is : HelpersNamed result → (x : Name) → is_among x result.names ≡ true → IsNamed x
    name_is named x h =
        elim (among_either x (input_names result ++ wire_names result ++ register_names result) (memory_names result) (sym (after.declared x) ∙ h)) [
          | inr m ↦ of_given x (memory_given x m)
          | inl a ↦
              elim (among_either x (input_names result ++ wire_names result) (register_names result) a) [
                | inr r ↦ of_given x (register_given x r)
                | inl b ↦
                    elim (among_either x (input_names result) (wire_names result) b) [ inl i ↦ of_given x (input_given x i) | inr w ↦ wire_is named x w ]
              ]
        ]

    abbrev IsListed : Name → Type 0
    IsListed x = IsInterfaceName d sites x

    registers_listed : AllByRecursion IsListed (register_names result)
    registers_listed =
        subst (λ (ns : List Name). AllByRecursion IsListed ns) (sym same_register_names)
        (map_of_all IsListed (λ (r : Register). r.name) given.registers
        (all_of_map (λ (q : Name × ℕ). IsListed q.0) (λ (r : Register). (r.name, r.width)) given.registers from.interface.declares.register_names))

    memories_listed : AllByRecursion IsListed (memory_names result)
    memories_listed =
        subst (λ (ns : List Name). AllByRecursion IsListed ns) (sym same_memory_names)
        (map_of_all IsListed (λ (m : Memory). m.name) given.memories
        (all_of_map (λ (q : Name × (ℕ × ℕ)). IsListed q.0) (λ (m : Memory). (m.name, (m.width, m.depth))) given.memories from.interface.declares.memory_names))

    has_interface : HelpersNamed result → HasInterface d tag sites result
    has_interface named = record {
      module_name = declares.module_name ∙ from.interface.module_name;
      declares =
          interface_carried d tag sites (declared_by given) from.interface.declares (declared_by result) carries
          (map_of_all (λ (q : Name × ℕ). IsListed q.0) (λ (r : Register). (r.name, r.width)) result.registers
          (all_of_map IsListed (λ (r : Register). r.name) result.registers registers_listed))
          (map_of_all (λ (q : Name × (ℕ × ℕ)). IsListed q.0) (λ (m : Memory). (m.name, (m.width, m.depth))) result.memories
          (all_of_map IsListed (λ (m : Memory). m.name) result.memories memories_listed));
      names = each_among (λ (x : Name). IsInterfaceName d sites x ⊎ IsHelpingName x) result.names (name_is named);
    }

    takes : (stream : List (List Tagged)) → StreamFits (world d) stream → AllFit result.inputs (coded_stream d.code stream)
    takes stream fit = subst (λ (is : List Input). AllFit is (coded_stream d.code stream)) (sym declares.inputs) (from.takes stream fit)

    -- a cycle of the one, and a cycle of the other in which the same is seen
    module _ (v w : Valuation) (same : ShowsAlike given result v w) where
      at_register : (x : Name) (u : ℕ) → find (declared_by given).registers x ≡ Some u → (observed result w).value x ≡ (observed given v).value x
      at_register x u h =
          sym (at_found (λ (y : Name) (k : ℕ). (observed given v).value y ≡ (observed result w).value y) (λ (r : Register). r.name)
          (λ (r : Register). r.width) given.registers same.registers x u h)

      at_cell : (x : Name) (q : ℕ × ℕ) → find (declared_by given).memories x ≡ Some q → (i : ℕ) → (observed result w).cell x i ≡ (observed given v).cell x i
      at_cell x q h i =
          sym (at_found (λ (y : Name) (k : ℕ × ℕ). (j : ℕ) → (observed given v).cell y j ≡ (observed result w).cell y j)
          (λ (m : Memory). m.name) (λ (m : Memory). (m.width, m.depth)) given.memories same.memories x q h i)

      at_port : (x : Name) (u : ℕ) → In (shown_ports given) (x, kind.Wire) → find (declared_by given).wires x ≡ Some u → (observed result w).value x ≡ (observed given v).value x
      at_port x u h f =
          sym (of_port (λ (k : PortKind) (y : Name). (observed given v).value y ≡ (observed result w).value y) given.ports x kind.Wire same.ports h)

      pub cycle_stands : (t : Store) (rs : List Refusal) → StandsFor d sites (observed given v) t rs → StandsFor d sites (observed result w) t rs
      cycle_stands t rs h =
          stands_carried d tag sites (declared_by given) from.interface.declares (observed given v) (observed result w)
          (record { registers = at_register; wires = at_port; cells = at_cell }) t rs h

    cycles_stand : (vs ws : List Valuation) (run : List After) → AllZip (ShowsAlike given result) vs ws → CyclesStand d sites (map (observed given) vs) run
        → CyclesStand d sites (map (observed result) ws) run
    cycles_stand [] [] run a c = c
    cycles_stand [] (w ∷ ws) run a c = absurd a
    cycles_stand (v ∷ vs) [] run a c = absurd a
    cycles_stand (v ∷ vs) (w ∷ ws) [] a c = absurd c
    cycles_stand (v ∷ vs) (w ∷ ws) (x ∷ run) a c = (cycle_stands v w a.0 x.store x.refused c.0, cycles_stand vs ws run a.1 c.1)

    pub stands_alike : HelpersNamed result → RunsAlike given result → SomeRun given → NetStandsFor d tag sites result
    stands_alike named alike some = record {
      interface = has_interface named;
      takes = takes;
      stands = λ stream fit ws run. (let xss = coded_stream d.code stream in
          let fits = from.takes stream fit in
          let one = some xss fits in
          cycles_stand one.0 ws (labelled_run d.program stream) (alike xss one.0 ws fits one.1 run) (from.stands stream fit one.0 one.1));
    }
