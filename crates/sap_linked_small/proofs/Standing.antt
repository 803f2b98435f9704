-- A netlist of which the same is seen as of the netlist of a system stands for it.
use Rattle.sap_lemmas.proofs.Common.{◌≡◌, ◌<◌, ℕ, List, [], ◌∷◌, map, length, Some, None, refl, sym, ◌∙◌, ap₂, subst, ◌↔◌, AllByRecursion, AllZip, all_follow, all_of_map}
use Rattle.sap_maps.specs.Prelude.{Name, Valuation, find}
use Rattle.sap_lattice.specs.Codes.{code_of, width_of}
use Rattle.sap_meaning.specs.Prelude.{is_input, Tagged, After, Refusal, Store}
use Rattle.sap_net.specs.declared.parts.PortKind.TheVariants as kind
use Rattle.sap_net.specs.Prelude.{Net, IsNetlist, AllFit, observed}
use Rattle.sap_net.specs.declared.parts.Port.{Port}
use Rattle.sap_net.specs.declared.parts.Input.{Input}
use Rattle.sap_net.specs.declared.parts.Register.{Register}
use Rattle.sap_net.specs.declared.parts.Memory.{Memory}
use Rattle.sap_net.proofs.Exists.{run_exists}
use Rattle.sap_interface.specs.Prelude.{IsRefused, Named, world, StandsFor, Shown, declared_by, DeclaresPart, coded_stream, CyclesStand}
use Rattle.sap_interface.proofs.Refused.{refused_within}
use Rattle.sap_build.specs.Copies.{through}
use Rattle.sap_trim.specs.Alike.{ShowsAlike}
use Rattle.sap_link.specs.Composites.{composite_run, run_of_part, StreamFits}
use Rattle.sap_linked.specs.Prelude.{NamedSystem, part_at, system_of, in_part, DeclaresSystem, held_ports, linked_net, without_fed, names_of_inputs, RunsStand, LinkedNetDeclares, LinkedNetIsNetlist, LinkedNetLinks, LinkedNetsStand}
use Rattle.sap_linked.proofs.Entities.{of_pairs}
use Rattle.sap_linked.proofs.Reading.{at_name}
use Rattle.sap_linked_small.specs.Laws.{IsSmall, SmallNetsStand}
use Rattle.sap_linked_small.proofs.Carried.{small_interface}
use Rattle.sap_linked_small.proofs.Fewer.{fewer_rules, port_of, run_back}
use Rattle.sap_linked_small.proofs.Held.{at_input, at_site}
use Rattle.sap_linked_small.proofs.Starting.{small_starts}

maps_alike : (f g : Name → ℕ) (xs : List Name) → AllByRecursion (λ x. f x ≡ g x) xs → map f xs ≡ map g xs
maps_alike f g [] a = refl
maps_alike f g (x ∷ xs) a = ap₂ (λ (n : ℕ) (ns : List ℕ). n ∷ ns) a.0 (maps_alike f g xs a.1)

module _ (s : NamedSystem) (nets : ℕ → Net) (small : Net) (declares : DeclaresSystem s (without_fed s (linked_net s nets))) where
  abbrev given : Net
  given = linked_net s nets

  -- ---- one cycle of each, in which the same is seen

  module _ (v w : Valuation) (same : ShowsAlike given small v w) where
    at_register : (x : Name) (u : ℕ) → find (declared_by given).registers x ≡ Some u → (observed small w).value x ≡ (observed given v).value x
    at_register =
        at_name (λ (r : Register). r.name) (λ r. r.width) (λ x. (observed small w).value x ≡ (observed given v).value x) given.registers
        (all_follow (λ (r : Register). (observed given v).value r.name ≡ (observed small w).value r.name)
        (λ r. (observed small w).value r.name ≡ (observed given v).value r.name) given.registers (λ r h. sym h) same.registers)

    at_cell : (x : Name) (t : ℕ × ℕ) → find (declared_by given).memories x ≡ Some t → (i : ℕ) → (observed small w).cell x i ≡ (observed given v).cell x i
    at_cell =
        at_name (λ (m : Memory). m.name) (λ m. (m.width, m.depth)) (λ x. (i : ℕ) → (observed small w).cell x i ≡ (observed given v).cell x i) given.memories
        (all_follow (λ (m : Memory). (i : ℕ) → (observed given v).cell m.name i ≡ (observed small w).cell m.name i) (λ m. (i : ℕ)
        → (observed small w).cell m.name i ≡ (observed given v).cell m.name i) given.memories
        (λ m h i. sym (h i)) same.memories)

    abbrev Seen : Name → Type 0
    Seen x = (observed small w).value x ≡ (observed given v).value x

    at_ports : AllByRecursion (λ (p : Shown). Seen p.0) (held_ports s)
    at_ports =
        all_of_map (λ (p : Port). Seen p.name) port_of (held_ports s)
        (all_follow (λ (p : Port). (observed given v).value p.name ≡ (observed small w).value p.name) (λ p. Seen p.name) given.ports (λ p h. sym h) same.ports)

    module _ (i : ℕ) (low : i < length s.parts) where
      abbrev d : Named
      d = (part_at s i).design

      abbrev f : Name → Name
      f = in_part (part_at s i).name

      rest : DeclaresPart f d (width_of s.order) (part_at s i).sites (declared_by (without_fed s given))
      rest = (declares.parts i low).rest

      cycle_stands : (t : Store) (rs : List Refusal) → StandsFor d (part_at s i).sites (through f (observed given v)) t rs
          → StandsFor d (part_at s i).sites (through f (observed small w)) t rs
      cycle_stands t rs h =
          record {
            register_values = λ x is. at_register _ _ (rest.registers x is).0 ∙ h.register_values x is;
            register_tags = λ x is. at_register _ _ (rest.registers x is).1 ∙ h.register_tags x is;
            cells = λ m j is inside. at_cell _ _ (rest.memories m is) j ∙ h.cells m j is inside;
            cell_tags = λ m j is enforced inside. at_cell _ _ (rest.cell_tags m is enforced) j ∙ h.cell_tags m j is enforced inside;
            memory_tags = λ m is dynamic. at_register _ _ (rest.memory_tags m is dynamic) ∙ h.memory_tags m is dynamic;
            state_tags = λ x is inside. at_register _ _ (rest.state_tags x is inside) ∙ h.state_tags x is inside;
            seats = λ p inside some. at_register _ _ (rest.seats p inside some).2 ∙ h.seats p inside some;
            root_seat = at_register _ _ rest.root_seat.2 ∙ h.root_seat;
            refused_sites = h.refused_sites;
            refusals = λ k from to.
                subst (λ (z : ℕ). (z ≡ 1) ↔ IsRefused rs k) (sym (at_site s (λ (p : Shown). Seen p.0) at_ports i low k from to).0) (h.refusals k from to);
            refusal_levels = λ k l is.
                let b = refused_within (part_at s i).sites rs h.refused_sites k l is in
                (at_site s (λ (p : Shown). Seen p.0) at_ports i low k b.0 b.1).1 ∙ h.refusal_levels k l is;
          }

      cycle_received : map (λ x. (observed small w).value (f x)) (names_of_inputs d) ≡ map (λ x. (observed given v).value (f x)) (names_of_inputs d)
      cycle_received =
          maps_alike (λ x. (observed small w).value (f x)) (λ x. (observed given v).value (f x)) (names_of_inputs d)
          (of_pairs (λ x. Seen (f x)) (is_input (world d)) kind.Input d (at_input s Seen at_ports i low) 0 (world d).entities)

  -- ---- all cycles

  module _ (i : ℕ) (low : i < length s.parts) where
    abbrev e : Named
    e = (part_at s i).design

    abbrev g : Name → Name
    g = in_part (part_at s i).name

    cycles_stand : (vs ws : List Valuation) (run : List After) → AllZip (ShowsAlike given small) vs ws
        → CyclesStand e (part_at s i).sites (map (through g) (map (observed given) vs)) run
        → CyclesStand e (part_at s i).sites (map (through g) (map (observed small) ws)) run
    cycles_stand [] [] run a c = c
    cycles_stand [] (w ∷ ws) run a c = absurd a
    cycles_stand (v ∷ vs) [] run a c = absurd a
    cycles_stand (v ∷ vs) (w ∷ ws) [] a c = absurd c
    cycles_stand (v ∷ vs) (w ∷ ws) (x ∷ run) a c = (cycle_stands v w a.0 i low x.store x.refused c.0, cycles_stand vs ws run a.1 c.1)

    abbrev given_to : Valuation → List ℕ
    given_to v = map (λ x. v.value (g x)) (names_of_inputs e)

    all_received : (vs ws : List Valuation) → AllZip (ShowsAlike given small) vs ws → map given_to (map (observed small) ws) ≡ map given_to (map (observed given) vs)
    all_received [] [] a = refl
    all_received [] (w ∷ ws) a = absurd a
    all_received (v ∷ vs) [] a = absurd a
    all_received (v ∷ vs) (w ∷ ws) a = ap₂ (λ (ns : List ℕ) (rest : List (List ℕ)). ns ∷ rest) (cycle_received v w a.0 i low) (all_received vs ws a.1)

  small_runs : IsNetlist given → IsSmall given small → RunsStand s given → RunsStand s (without_fed s small)
  small_runs before is stand =
      record {
        takes = takes;
        stands = λ stream fit ws run i low.
            let xss = coded_stream (code_of s.order) stream in
            let fits = stand.takes stream fit in
            let one = run_exists given before xss None tt fits in
            let alike = is.runs xss one.0 ws fits one.1 (run_back s small None xss ws run) in
            let h = stand.stands stream fit one.0 one.1 i low in
            record {
              cycles = cycles_stand i low one.0 ws (run_of_part i (composite_run (system_of s) stream)) alike h.cycles;
              received = all_received i low one.0 ws alike ∙ h.received;
            };
      }
    where
      takes : (stream : List (List Tagged)) → StreamFits (system_of s) stream → AllFit (without_fed s small).inputs (coded_stream (code_of s.order) stream)
      takes stream fit = subst (λ (inputs : List Input). AllFit inputs (coded_stream (code_of s.order) stream)) (sym is.declares.inputs) (stand.takes stream fit)

pub small_nets_stand : LinkedNetsStand → LinkedNetLinks → LinkedNetDeclares → LinkedNetIsNetlist → SmallNetsStand
small_nets_stand stand link declare keep s nets small codes fine sized fit each is =
    let before = keep s nets codes fit fine.wires each in
    let declares = declare s nets each before in
    let links = link s nets each before in
    let runs = stand s nets (λ i. in_part (part_at s i).name) (linked_net s nets) codes fine sized each links in
    record {
      netlist = fewer_rules s small is.declares.ports is.netlist;
      stands = record {
        interface = small_interface s nets small before is.netlist is.declares declares is.wires;
        runs = small_runs s nets small declares before is runs;
      };
      starts = λ i low. small_starts s nets small before is.declares i (each i low) (links.parts i low);
    }
