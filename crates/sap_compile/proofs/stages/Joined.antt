-- The netlist of nested states that stand for a design stands for it too.
use Rattle.sap_lemmas.proofs.Common.{◌≡◌, ◌⊎◌, ℕ, List, [], ◌∷◌, ◌++◌, map, true, false, Some, inl, inr, refl, sym, ap, ap₂, ◌∙◌, subst, if◌then◌else◌, bytes_eq, option_map, AllByRecursion, AllZip, cases_Bool, all_follow, all_of_map, map_of_all, all_second, bytes_eq_same}
use Rattle.sap_net.proofs.NamesLemmas.{found_among, found_of, among_each, each_among}
use Rattle.sap_maps.specs.Prelude.{Name, Valuation, find}
use Rattle.sap_meaning.specs.Prelude.{Tagged, Store, After, Refusal, StreamFits, labelled_run}
use Rattle.sap_net.specs.Prelude.{is_among, IsHelpingName, Net, IsNetlist, SomeRun, AllFit, observed}
use Rattle.sap_net.specs.declared.parts.Port.{Port}
use Rattle.sap_net.specs.declared.parts.Input.{Input}
use Rattle.sap_net.specs.declared.parts.Register.{Register}
use Rattle.sap_net.specs.declared.parts.Memory.{Memory}
use Rattle.sap_net.specs.IsNetlist as net
use Rattle.sap_net.specs.declared.parts.PortKind.TheVariants as kind
use Rattle.sap_ir.specs.Prelude.{Source, variable_names, memory_names, Nested, IsPlain}
use Rattle.sap_ir.specs.declared.guarded.Var.{Var}
use Rattle.sap_ir.specs.Guarded.{guarded_run}
use Rattle.sap_ir.specs.Plain.Does.{plain_run}
use Rattle.sap_ir.specs.declared.guarded.MemoryVariable as ir
use Rattle.sap_flat.specs.Same as flat
use Rattle.sap_lower.specs.Same as low
use Rattle.sap_lower.proofs.Listed.{listed_port}
use Rattle.sap_trim.specs.Alike.{DeclaresAlike, RunsAlike}
use Rattle.sap_trim.specs.Names.{helper, port_names, lasting_names, NoneNumbered}
use Rattle.sap_trim.specs.Trimmed.{NumbersWires}
use Rattle.sap_interface.specs.Prelude.{Named, world, StandsFor, IsInterfaceName, Shown, HasInterface, declared_by, coded_stream, CyclesStand, NetStandsFor}
use Rattle.sap_tagged.specs.Law.{shows, shown, declared_in, PlainStandsFor}
use Rattle.sap_tagged.proofs.Members.{In}
use Rattle.sap_compile.specs.Stages.Stages.{StandsForTheSame}
use Rattle.sap_compile.proofs.stages.Ports.{all_front, variable_among, store_among, ports_named, wire_among}
use Rattle.sap_compile.proofs.stages.Carried.{Carries, interface_carried, stands_carried}
use Rattle.sap_compile.proofs.stages.Alike.{port_named, helpers_named, stands_alike}
use Rattle.sap_compile.proofs.stages.Declared.{memories_named}
use Rattle.sap_compile.proofs.stages.Helping.{among_either, no_helper}
use Rattle.sap_compile.proofs.stages.Found.{as_input, Shape, Stored, shape_of, store_stored, variable_widths, wire_widths, at_found, inputs_declared, found_front, listed_variable, width_found, memory_shapes, store_shapes, all_fit}

-- ports

abbrev as_port : Var → Port
as_port x = record { name = x.name; kind = kind.Input }

abbrev name_port : List Var → Name → Port
name_port rs n = record { name = n; kind = if is_among n (variable_names rs) then kind.Register else kind.Wire }

abbrev ports_with : (inputs registers : List Var) → List Name → List Port
ports_with is rs ns = map as_port is ++ map (name_port rs) ns

abbrev shown_of : Port → Shown
shown_of p = (p.name, p.kind)

abbrev input_shown : Var → Shown
input_shown x = (x.name, kind.Input)

abbrev name_shown : List Var → Name → Shown
name_shown rs n = (n, (name_port rs n).kind)

shown_join : (xs ys : List Port) → map shown_of (xs ++ ys) ≡ map shown_of xs ++ map shown_of ys
shown_join [] ys = refl
shown_join (x ∷ xs) ys = ap (λ (zs : List Shown). shown_of x ∷ zs) (shown_join xs ys)

inputs_shown : (xs : List Var) → map shown_of (map as_port xs) ≡ map input_shown xs
inputs_shown [] = refl
inputs_shown (x ∷ xs) = ap (λ (zs : List Shown). input_shown x ∷ zs) (inputs_shown xs)

names_shown : (rs : List Var) (ns : List Name) → map shown_of (map (name_port rs) ns) ≡ map (name_shown rs) ns
names_shown rs [] = refl
names_shown rs (x ∷ ns) = ap (λ (zs : List Shown). name_shown rs x ∷ zs) (names_shown rs ns)

module _ (d : Named) (tag sites : ℕ) (p : Nested) (s : Source) (n : Net) (from : PlainStandsFor d tag sites p) (rules : IsPlain p)
    (flattens : flat.Declares p s) (lowers : low.Declares s n) where
  -- what is declared

  -- the numbers' widths

  port_in : (x : Name) (u : ℕ) → In (shown p) (x, kind.Wire) → find (variable_widths p.wires) x ≡ Some u → find (variable_widths (low.port_wires s)) x ≡ Some u
  port_in x u port h =
      let all = subst (λ (ws : List Var). find (variable_widths ws) x ≡ Some u) (sym flattens.wires.1) (found_front p.wires flattens.wires.0 x u h) in
      listed_variable s.ports s.wires x u all
      (subst (λ (ns : List Name). is_among x ns ≡ true) (sym flattens.ports) (wire_among p.inputs (shows p) p.ports x port))

  has_wire : (x : Name) (u : ℕ) → In (shown p) (x, kind.Wire) → find (variable_widths p.wires) x ≡ Some u → find (wire_widths n.wires) x ≡ Some u
  has_wire x u port h =
      at_found (λ (m : Name) (k : ℕ). find (wire_widths n.wires) m ≡ Some k) (λ (v : Var). v.name) (λ (v : Var). v.width) (low.port_wires s) lowers.wires x u (port_in x u port h)

  same_register : (x : Name) → find {X = ℕ} (map (λ (r : Register). (r.name, r.width)) n.registers) x ≡ find (variable_widths p.registers) x
  same_register x =
      width_found (λ (r : Register). r.name) (λ (r : Register). r.width) (λ (r : Register). r.start) n.registers x
      ∙ ap (option_map (λ (q : Shape). q.0))
      (lowers.registers x ∙ ap (λ (rs : List Var). find {X = Shape} (map (λ r. (r.name, (r.width, r.start))) rs) x) flattens.registers)
      ∙ sym (width_found (λ (v : Var). v.name) (λ (v : Var). v.width) (λ (v : Var). v.start) p.registers x)

  same_shapes : net.shapes n ≡ map (λ m. (m.name, (m.width, m.depth))) p.memories
  same_shapes =
      sym (memory_shapes n.memories)
      ∙ ap (λ (qs : List Stored). map shape_of qs) (lowers.memories ∙ ap (λ (ms : List ir.MemoryVariable). map store_stored ms) flattens.memories)
      ∙ store_shapes p.memories

  inputs_are : n.inputs ≡ map as_input p.inputs
  inputs_are = lowers.inputs ∙ ap (λ (xs : List Var). map as_input xs) flattens.inputs

  ports_are : n.ports ≡ ports_with p.inputs p.registers p.ports
  ports_are =
      lowers.ports ∙ ap (λ (is : List Var). ports_with is s.registers s.ports) flattens.inputs
      ∙ ap (λ (rs : List Var). ports_with p.inputs rs s.ports) flattens.registers ∙ ap (λ (ns : List Name). ports_with p.inputs p.registers ns) flattens.ports

  same_ports : map shown_of n.ports ≡ shown p
  same_ports =
      ap (λ (ps : List Port). map shown_of ps) ports_are
      ∙ shown_join (map as_port p.inputs) (map (name_port p.registers) p.ports)
      ∙ ap₂ (λ (xs ys : List Shown). xs ++ ys) (inputs_shown p.inputs) (names_shown p.registers p.ports)

  carries : Carries (declared_in p) (declared_by n)
  carries = record {
    ports = same_ports;
    inputs = ap (λ (is : List Input). map {B = Name × ℕ} (λ i. (i.name, i.width)) is) inputs_are ∙ inputs_declared p.inputs;
    registers = same_register;
    memories = same_shapes;
    wires = has_wire;
  }

  -- names

  abbrev IsNamed : Name → Type 0
  IsNamed x = IsInterfaceName d sites x

  all_shown : AllByRecursion (λ q. IsInterfaceName d sites q.0) (shown p)
  all_shown = subst (λ (qs : List Shown). AllByRecursion (λ q. IsInterfaceName d sites q.0) qs) (sym from.interface.ports) (ports_named d sites)

  inputs_named : AllByRecursion (λ x. IsNamed x.name) p.inputs
  inputs_named =
      all_of_map (λ (q : Shown). IsNamed q.0) input_shown p.inputs
      (all_front (λ (q : Shown). IsNamed q.0) (map input_shown p.inputs) (map (λ x. (x, shows p x)) p.ports) all_shown)

  outputs_named : AllByRecursion IsNamed p.ports
  outputs_named =
      all_of_map (λ (q : Shown). IsNamed q.0) (λ (x : Name). (x, shows p x)) p.ports
      (all_second (λ (q : Shown). IsNamed q.0) (map input_shown p.inputs) (map (λ x. (x, shows p x)) p.ports) all_shown)

  kept_named : (x : Name) → low.IsKept s x → IsNamed x
  kept_named x (inl h) = variable_among IsNamed p.inputs inputs_named x (subst (λ (is : List Var). is_among x (variable_names is) ≡ true) flattens.inputs h)
  kept_named x (inr (inl h)) =
      variable_among IsNamed p.registers (all_of_map (λ (q : Name × ℕ). IsNamed q.0) (λ (v : Var). (v.name, v.width)) p.registers
      from.interface.register_names) x (subst (λ (rs : List Var). is_among x (variable_names rs) ≡ true) flattens.registers h)
  kept_named x (inr (inr (inl h))) =
      store_among IsNamed p.memories
      (all_of_map (λ (q : Name × (ℕ × ℕ)). IsNamed q.0) (λ (m : ir.MemoryVariable). (m.name, (m.width, m.depth))) p.memories
      from.interface.memory_names) x (subst (λ (ms : List ir.MemoryVariable). is_among x (memory_names ms) ≡ true) flattens.memories h)
  kept_named x (inr (inr (inr h))) =
      among_each IsNamed p.ports outputs_named x (subst (λ (ns : List Name). is_among x ns ≡ true) flattens.ports (listed_port s.ports s.wires x h))

  -- nothing that lasts is numbered

  register_kept : (x : Name) → is_among x (net.register_names n) ≡ true → IsNamed x
  register_kept x h =
      let f = found_of {X = Shape} (λ (r : Register). r.name) (λ (r : Register). (r.width, r.start)) n.registers x h in
      kept_named x (inr (inl (found_among {X = Shape} (λ (v : Var). v.name) (λ (v : Var). (v.width, v.start)) s.registers x f.0 (sym (lowers.registers x) ∙ f.1))))

  stores_named : (ms : List ir.MemoryVariable) → map (λ (q : Stored). q.0) (map store_stored ms) ≡ memory_names ms
  stores_named [] = refl
  stores_named (m ∷ ms) = ap (λ (ns : List Name). m.name ∷ ns) (stores_named ms)

  memory_kept : (x : Name) → is_among x (net.memory_names n) ≡ true → IsNamed x
  memory_kept x h =
      let e : net.memory_names n ≡ memory_names s.memories =
      sym (memories_named n.memories) ∙ ap (λ (qs : List Stored). map (λ (q : Stored). q.0) qs) lowers.memories ∙ stores_named s.memories in
      kept_named x (inr (inr (inl (subst (λ (ns : List Name). is_among x ns ≡ true) e h))))

  lasting_named : (x : Name) → is_among x (lasting_names n) ≡ true → IsNamed x
  lasting_named x h =
      elim (among_either x (port_names n) (net.register_names n ++ net.memory_names n) h) [
        | inl p ↦ port_named d sites n (same_ports ∙ from.interface.ports) x p
        | inr i ↦ elim (among_either x (net.register_names n) (net.memory_names n) i) [ inl r ↦ register_kept x r | inr m ↦ memory_kept x m ]
      ]

  pub none_numbered : NoneNumbered n
  none_numbered = λ k.
      elim (cases_Bool (is_among (helper k) (lasting_names n))) [
        | inl t ↦ absurd (let e : bytes_eq (helper k) (helper k) ≡ false = no_helper d sites (helper k) (lasting_named (helper k) t) k in let f = bytes_eq_same (helper k) in cc)
        | inr f ↦ f
      ]

  name_is : (x : Name) → low.IsKept s x ⊎ IsHelpingName x → IsInterfaceName d sites x ⊎ IsHelpingName x
  name_is x (inl h) = inl (kept_named x h)
  name_is x (inr h) = inr h

  interface : HasInterface d tag sites n
  interface = record {
    module_name = lowers.module_name;
    declares =
        interface_carried d tag sites (declared_in p) from.interface (declared_by n) carries
        (map_of_all (λ (q : Name × ℕ). IsNamed q.0) (λ (r : Register). (r.name, r.width)) n.registers
        (all_of_map IsNamed (λ (r : Register). r.name) n.registers (each_among IsNamed (net.register_names n) register_kept)))
        (map_of_all (λ (q : Name × (ℕ × ℕ)). IsNamed q.0) (λ (m : Memory). (m.name, (m.width, m.depth))) n.memories
        (all_of_map IsNamed (λ (m : Memory). m.name) n.memories (each_among IsNamed (net.memory_names n) memory_kept)));
    names = all_follow (λ (x : Name). low.IsKept s x ⊎ IsHelpingName x) (λ x. IsInterfaceName d sites x ⊎ IsHelpingName x) n.names name_is lowers.names;
  }

  takes : (stream : List (List Tagged)) → StreamFits (world d) stream → AllFit n.inputs (coded_stream d.code stream)
  takes stream fit =
      subst (λ (is : List Input). AllFit is (coded_stream d.code stream)) (sym inputs_are) (all_fit p.inputs (coded_stream d.code stream) (from.run.takes stream fit))

  -- a cycle of the netlist, of the flat program and of the nested states
  module _ (v e f : Valuation) (lowered : low.SameNumbers s n v e) (flattened : flat.SameNumbers p e f) where
    abbrev seen : Name → ℕ
    seen x = (observed n v).value x

    of_register : (x : Name) (u : ℕ) → find (variable_widths p.registers) x ≡ Some u → seen x ≡ f.value x
    of_register x u h =
        at_found (λ (m : Name) (k : ℕ). seen m ≡ e.value m) (λ (r : Var). r.name) (λ (r : Var). r.width) s.registers lowered.registers x u
        (subst (λ (rs : List Var). find (variable_widths rs) x ≡ Some u) (sym flattens.registers) h)
        ∙ at_found (λ (m : Name) (k : ℕ). e.value m ≡ f.value m) (λ (r : Var). r.name) (λ (r : Var). r.width) p.registers flattened.registers x u h

    of_wire : (x : Name) (u : ℕ) → In (shown p) (x, kind.Wire) → find (variable_widths p.wires) x ≡ Some u → seen x ≡ f.value x
    of_wire x u port h =
        at_found (λ (m : Name) (k : ℕ). seen m ≡ e.value m) (λ (r : Var). r.name) (λ (r : Var). r.width) (low.port_wires s) lowered.wires x u (port_in x u port h)
        ∙ at_found (λ (m : Name) (k : ℕ). e.value m ≡ f.value m) (λ (r : Var). r.name) (λ (r : Var). r.width) p.wires flattened.wires x u h

    of_cell : (x : Name) (q : ℕ × ℕ) → find (declared_in p).memories x ≡ Some q → (i : ℕ) → (observed n v).cell x i ≡ f.cell x i
    of_cell x q h i =
        at_found (λ (m : Name) (k : ℕ × ℕ). (j : ℕ) → (observed n v).cell m j ≡ e.cell m j) (λ (m : ir.MemoryVariable). m.name)
        (λ (m : ir.MemoryVariable). (m.width, m.depth)) s.memories lowered.memories x q
        (subst (λ (ms : List ir.MemoryVariable). find {X = ℕ × ℕ} (map (λ m. (m.name, (m.width, m.depth))) ms) x ≡ Some q) (sym flattens.memories) h) i
        ∙ at_found (λ (m : Name) (k : ℕ × ℕ). (j : ℕ) → e.cell m j ≡ f.cell m j) (λ (m : ir.MemoryVariable). m.name)
        (λ (m : ir.MemoryVariable). (m.width, m.depth)) p.memories flattened.memories x q h i

    pub cycle_stands : (t : Store) (rs : List Refusal) → StandsFor d sites f t rs → StandsFor d sites (observed n v) t rs
    cycle_stands t rs h =
        stands_carried d tag sites (declared_in p) from.interface f (observed n v) (record { registers = of_register; wires = of_wire; cells = of_cell }) t rs h

  cycles_stand : (vs es fs : List Valuation) (run : List After) → AllZip (low.SameNumbers s n) vs es → AllZip (flat.SameNumbers p) es fs → CyclesStand d sites fs run
      → CyclesStand d sites (map (observed n) vs) run
  cycles_stand [] [] [] run a b c = c
  cycles_stand [] [] (f ∷ fs) run a b c = absurd b
  cycles_stand [] (e ∷ es) fs run a b c = absurd a
  cycles_stand (v ∷ vs) [] fs run a b c = absurd a
  cycles_stand (v ∷ vs) (e ∷ es) [] run a b c = absurd b
  cycles_stand (v ∷ vs) (e ∷ es) (f ∷ fs) [] a b c = absurd c
  cycles_stand (v ∷ vs) (e ∷ es) (f ∷ fs) (x ∷ run) a b c =
      (cycle_stands v e f a.0 b.0 x.store x.refused c.0, cycles_stand vs es fs run a.1 b.1 c.1)

  pub net_stands : flat.RunsAlike p s → low.RunsAlike s n → NetStandsFor d tag sites n
  net_stands same alike = record {
    interface = interface;
    takes = takes;
    stands = λ stream fit vs run. (let xss = coded_stream d.code stream in
        cycles_stand vs (guarded_run s xss) (plain_run p xss) (labelled_run d.program stream) (alike xss vs (takes stream fit) run) (same xss)
        (from.run.stands stream fit));
  }

pub stands_for_the_same : (p : Nested) (s : Source) (n m : Net) → IsPlain p → flat.Declares p s → flat.RunsAlike p s → low.Declares s n
    → low.RunsAlike s n → IsNetlist n → SomeRun n
    → IsNetlist m → DeclaresAlike n m → RunsAlike n m → NumbersWires m → StandsForTheSame p m
stands_for_the_same p s n m rules flattens same lowers alike before some after declares shows numbers ls d from =
    stands_alike n m before after declares _ _ _ (net_stands _ _ _ p s n from rules flattens lowers same alike)
    (helpers_named n m before after declares (none_numbered _ _ _ p s n from rules flattens lowers) numbers) shows some
