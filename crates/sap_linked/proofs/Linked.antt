-- A netlist that links the netlists of parts stands for the composite run.
use Rattle.sap_lemmas.proofs.Common.{◌≡◌, ℕ, zero, suc, ◌<◌, true, false, List, [], ◌∷◌, map, get_or, length, Option, Some, None, refl, sym, ◌∙◌, ap, ap₂, subst, arith, option_map, AllByRecursion, all_follow, length_map}
use Rattle.sap_maps.specs.Prelude.{Name, Valuation, find}
use Rattle.sap_lattice.specs.Prelude.{Order, Codes, code_of, width_of}
use Rattle.sap_meaning.specs.Prelude.{Program, is_input, is_register, Tagged, InputsFit as InputsFitPart, AllFit as AllFitWidths}
use Rattle.sap_net.specs.Prelude.{Net, is_among, register_names, AllFit, InputsFit, InputsAre, IsCycle, IsRunAfter, observed, value_after, value_name, tag_name}
use Rattle.sap_net.specs.declared.parts.Input.{Input}
use Rattle.sap_net.proofs.NamesLemmas.{not_found}
use Rattle.sap_interface.specs.Prelude.{Named, name, StandsFor, HasInterface, IsInterfaceName, value_of, tag_of, coded, coded_stream, CyclesStand, NetStandsFor, NetStartsAs}
use Rattle.sap_build.specs.Copies.{through}
use Rattle.sap_build.specs.Parts.{Feeds, fed_numbers}
use Rattle.sap_build.specs.Laws.{PartsRun, PartsShow}
use Rattle.sap_link.specs.Systems.{Endpoint, endpoint, Wire, Connects, System, IsPart as IsPartNumber, part, width_at, free_inputs}
use Rattle.sap_link.specs.Systems.{no_part as no_program}
use Rattle.sap_link.specs.Systems.{world as world_at}
use Rattle.sap_link.specs.Composites.{CompositeState, states_of, content_at, received, part_inputs, composite_cycle, composite_run_from, first_states, run_of_part, stream_of_part}
use Rattle.sap_link.specs.Composites.{InputsFit as InputsFitSystem, StreamFits as StreamFitsSystem}
use Rattle.sap_link.specs.Laws.{FineSystem, SizedSystem, PartsFit, CompositesFit, StreamsOfPartsFit, FedInputsReceive, FreeInputsReceive}
use Rattle.sap_linked.specs.Prelude.{Part, NamedSystem, no_part, part_at, system_of, in_part, IsNetOf, inputs_for, LinksParts, names_of_inputs, RunsStand, LinkedNetsStand}
use Rattle.sap_linked.proofs.Reading.{at_name}
use Rattle.sap_linked.proofs.Alike.{register_holds, input_holds, stands_behind}
use Rattle.sap_linked.proofs.Cycles.{StandsAfter, this_cycle, later_cycles, BeginsAs, begins_first, begins_later}
use Rattle.sap_linked.proofs.Fed.{Has, free_have, fit_length, each_input, wires_have}
use Rattle.sap_linked.proofs.Inputs.{input_names_are, fed_by_names, IsGiven, inputs_coded}

pub program_is : (o : Order) (ps : List Part) (i : ℕ) → get_or (map (λ (p : Part). p.design.program) ps) i (no_program o) ≡ (get_or ps i (no_part o)).design.program
program_is o [] zero = refl
program_is o [] (suc i) = refl
program_is o (p ∷ ps) zero = refl
program_is o (p ∷ ps) (suc i) = program_is o ps i

-- the design of part i, by the system's program
abbrev pub design_at : NamedSystem → ℕ → Named
design_at s i = record { program = part (system_of s) i; names = (part_at s i).design.names; code = code_of s.order }

pub design_is : (s : NamedSystem) (i : ℕ) → (part_at s i).design.code ≡ code_of s.order → design_at s i ≡ (part_at s i).design
design_is s i same =
    ap₂ {A = Program} {B = ℕ → ℕ} {C = Named} (λ p c. record { program = p; names = (part_at s i).design.names; code = c }) (program_is s.order s.parts i) (sym same)

-- ---- the streams that it takes

inputs_take : (s : NamedSystem) → Codes s.order → (es : List Endpoint) (inputs : List Tagged)
    → AllFitWidths s.order.count (map (width_at (system_of s)) es) inputs → InputsFit (inputs_for s es) (coded (code_of s.order) inputs)
inputs_take s codes [] [] fit = tt
inputs_take s codes [] (t ∷ ts) fit = absurd fit
inputs_take s codes (e ∷ es) [] fit = absurd fit
inputs_take s codes (e ∷ es) (t ∷ ts) fit = (fit.0, (codes.small t.level, inputs_take s codes es ts fit.2))

stream_taken : (s : NamedSystem) → Codes s.order → (stream : List (List Tagged)) → StreamFitsSystem (system_of s) stream
    → AllFit (inputs_for s (free_inputs (system_of s))) (coded_stream (code_of s.order) stream)
stream_taken s codes [] fit = tt
stream_taken s codes (inputs ∷ rest) fit = (inputs_take s codes (free_inputs (system_of s)) inputs fit.0, stream_taken s codes rest fit.1)

module _ (runs : PartsRun) (shows : PartsShow) (fits : CompositesFit) (streams : StreamsOfPartsFit) (fed_receive : FedInputsReceive) (free_receive : FreeInputsReceive)
    (s : NamedSystem) (nets : ℕ → Net) (named : ℕ → Name → Name) (whole : Net)
    (codes : Codes s.order) (fine : FineSystem (system_of s)) (sized : SizedSystem (system_of s))
    (each : (i : ℕ) → i < length s.parts → IsNetOf s.order (part_at s i) (nets i)) (links : LinksParts s nets named whole) where
  abbrev y : System
  y = system_of s

  is_number : (i : ℕ) → i < length s.parts → IsPartNumber y i
  is_number i low = let same = length_map (λ (p : Part). p.design.program) s.parts in omega (arith, same, low)

  is_low : (i : ℕ) → IsPartNumber y i → i < length s.parts
  is_low i is = let same = length_map (λ (p : Part). p.design.program) s.parts in omega (arith, same, is)

  module _ (i : ℕ) (low : i < length s.parts) where
    same_design : design_at s i ≡ (part_at s i).design
    same_design = design_is s i (each i low).codes

    net_stands : NetStandsFor (design_at s i) (width_of s.order) (part_at s i).sites (nets i)
    net_stands = subst (λ d. NetStandsFor d (width_of s.order) (part_at s i).sites (nets i)) (sym same_design) (each i low).stands

    net_starts : NetStartsAs (design_at s i) (part_at s i).sites (nets i)
    net_starts = subst (λ d. NetStartsAs d (part_at s i).sites (nets i)) (sym same_design) (each i low).starts

    behind_part : (x : Name) → IsInterfaceName (design_at s i) (part_at s i).sites x → named i x ≡ in_part (part_at s i).name x
    behind_part x is = links.interface_names i low x (subst (λ d. IsInterfaceName d (part_at s i).sites x) same_design is)

  abbrev Ready : Option Valuation → CompositeState → ℕ → Type 0
  Ready before states i =
      StandsAfter (design_at s i) (part_at s i).sites (nets i) (option_map (through (named i)) before) (states i)
      × BeginsAs (design_at s i) (nets i) (option_map (through (named i)) before) (states i)

  abbrev Stand : CompositeState → List (List Tagged) → List Valuation → ℕ → Named → Type 0
  Stand states stream us i d =
      CyclesStand d (part_at s i).sites (map (through (in_part (part_at s i).name)) (map (observed whole) us)) (run_of_part i (composite_run_from y states stream))
      × (map (λ (v : Valuation). map (λ x. v.value (in_part (part_at s i).name x)) (names_of_inputs d)) (map (observed whole) us)
      ≡ coded_stream (code_of s.order) (stream_of_part y states stream i))

  -- ---- one cycle

  module _ (before : Option Valuation) (states : CompositeState) (rests : PartsFit y states) (ready : (i : ℕ) → i < length s.parts → Ready before states i)
      (inputs : List Tagged) (fit : InputsFitSystem y inputs) (u : Valuation) (c : IsCycle whole before (coded (code_of s.order) inputs) u)
      (own : (i : ℕ) → i < length s.parts → IsCycle (nets i) (option_map (through (named i)) before) (fed_numbers (named i) (nets i) u) (through (named i) u)) where
    register_has : (e : Endpoint) → e.part < length s.parts → is_register (world_at y e.part) e.entity ≡ true → Has s u e (content_at y states e)
    register_has e low is =
        let r = (ready e.part low).1 (through (named e.part) u) (own e.part low).begins in
        let d = design_at s e.part in (
          ap (λ x. u.value x) (sym (behind_part e.part low (value_name (name d e.entity)) (value_of e.entity (register_holds d e.entity is)))) ∙ r.values e.entity is,
          ap (λ x. u.value x) (sym (behind_part e.part low (tag_name (name d e.entity)) (tag_of e.entity (register_holds d e.entity is)))) ∙ r.tags e.entity is,
        )

    wires_from : (ws : List Wire) → AllByRecursion (Connects y) ws → AllByRecursion (λ w. Has s u w.from (content_at y states w.from)) ws
    wires_from [] good = tt
    wires_from (w ∷ ws) good = (register_has w.from (is_low w.from.part good.0.from_part) good.0.register, wires_from ws good.1)

    given_free : AllByRecursion (λ e. Has s u e (received y states inputs e)) (free_inputs y)
    given_free =
        let same = free_receive y states inputs (fit_length s.order.count (width_at y) (free_inputs y) inputs fit) in
        free_have s u (received y states inputs) (free_inputs y)
        (subst (λ ts. InputsAre u (inputs_for s (free_inputs y)) (coded (code_of s.order) ts)) (sym same)
        (subst (λ is. InputsAre u is (coded (code_of s.order) inputs)) links.inputs c.given))

    all_has : (i x : ℕ) → is_input (world_at y i) x ≡ true → Has s u (endpoint i x) (received y states inputs (endpoint i x))
    all_has =
        each_input y (λ e. Has s u e (received y states inputs e)) given_free
        (wires_have s codes u states inputs s.wires (fed_receive y fine.wires.once states inputs) (links.carries u c.valuation) (wires_from s.wires fine.wires.each))

    module _ (i : ℕ) (low : i < length s.parts) where
      interface : HasInterface (design_at s i) (width_of s.order) (part_at s i).sites (nets i)
      interface = (net_stands i low).interface

      fed_coded : fed_numbers (named i) (nets i) u ≡ coded (code_of s.order) (part_inputs y states inputs i)
      fed_coded =
          fed_by_names (named i) (nets i) u
          ∙ ap (map (λ x. u.value (named i x))) (input_names_are (design_at s i) (part_at s i).sites (nets i) (each i low).netlist interface.declares.ports)
          ∙ inputs_coded (design_at s i) (λ x. u.value (named i x)) (λ x. received y states inputs (endpoint i x)) given
        where
          given : (x : ℕ) → is_input (world_at y i) x ≡ true → IsGiven (design_at s i) (λ x. u.value (named i x)) x (received y states inputs (endpoint i x))
          given x is = (
            ap (λ n. u.value n) (behind_part i low (value_name (name (design_at s i) x)) (value_of x (input_holds (design_at s i) x is))) ∙ (all_has i x is).0,
            ap (λ n. u.value n) (behind_part i low (tag_name (name (design_at s i) x)) (tag_of x (input_holds (design_at s i) x is))) ∙ (all_has i x is).1,
          )

      own_cycle : IsCycle (nets i) (option_map (through (named i)) before) (coded (code_of s.order) (part_inputs y states inputs i)) (through (named i) u)
      own_cycle = subst (λ xs. IsCycle (nets i) (option_map (through (named i)) before) xs (through (named i) u)) fed_coded (own i low)

      part_fits : InputsFitPart (world_at y i) (part_inputs y states inputs i)
      part_fits = (streams y fine sized states rests (inputs ∷ []) (fit, tt) i (is_number i low)).0

      stands : StandsFor (design_at s i) (part_at s i).sites (observed (nets i) (through (named i) u))
          (composite_cycle y inputs states i).store (composite_cycle y inputs states i).refused
      stands =
          this_cycle (design_at s i) (part_at s i).sites (nets i) (option_map (through (named i)) before) (states i) (ready i low).0
          (part_inputs y states inputs i) part_fits (through (named i) u) own_cycle

      ready_later : Ready (Some u) (states_of (composite_cycle y inputs states)) i
      ready_later = (
        later_cycles (design_at s i) (part_at s i).sites (nets i) (option_map (through (named i)) before) (states i) (ready i low).0
            (part_inputs y states inputs i) part_fits (through (named i) u) own_cycle,
        begins_later (design_at s i) (width_of s.order) (part_at s i).sites (nets i) interface.declares.part (each i low).netlist (through (named i) u)
            (composite_cycle y inputs states i).store (composite_cycle y inputs states i).refused stands,
      )

      seen_stands : StandsFor (design_at s i) (part_at s i).sites (through (in_part (part_at s i).name) (observed whole u))
          (composite_cycle y inputs states i).store (composite_cycle y inputs states i).refused
      seen_stands =
          stands_behind (design_at s i) (width_of s.order) (part_at s i).sites (nets i) (each i low).netlist interface.declares.part
          (named i) (in_part (part_at s i).name) (behind_part i low) (observed (nets i) (through (named i) u)) (observed whole u)
          (shows (named i) (nets i) whole (each i low).netlist links.netlist (links.parts i low) (through (named i) u) u (record { value = λ x w h. refl; cell = λ m t h j. refl }))
          (composite_cycle y inputs states i).store (composite_cycle y inputs states i).refused stands

      unclocked : (x : Name) (w : ℕ) → find (map (λ (input : Input). (input.name, input.width)) (nets i).inputs) x ≡ Some w → is_among (named i x) (register_names whole) ≡ false
      unclocked =
          at_name (λ (input : Input). input.name) (λ input. input.width) (λ x. is_among (named i x) (register_names whole) ≡ false) (nets i).inputs
          (all_follow (λ (input : Input). Feeds whole (named i input.name) input.width)
          (λ input. is_among (named i input.name) (register_names whole) ≡ false) (nets i).inputs (λ input h. h.unclocked) (links.parts i low).fed)

      seen_input : (x : Name) (w : ℕ) → IsInterfaceName (design_at s i) (part_at s i).sites x → find (map (λ (input : Input). (input.name, input.width)) (nets i).inputs) x ≡ Some w
          → (observed whole u).value (in_part (part_at s i).name x) ≡ u.value (in_part (part_at s i).name x)
      seen_input x w is h =
          let e = behind_part i low x is in
          let free : is_among (in_part (part_at s i).name x) (register_names whole) ≡ false = subst (λ z. is_among z (register_names whole) ≡ false) e (unclocked x w h) in
          ap (value_after u (in_part (part_at s i).name x)) (not_found (λ r. r.name) (λ r. r.next) whole.registers (in_part (part_at s i).name x) free)

      seen_received : map (λ x. (observed whole u).value (in_part (part_at s i).name x)) (names_of_inputs (design_at s i)) ≡ coded (code_of s.order) (part_inputs y states inputs i)
      seen_received = inputs_coded (design_at s i) (λ x. (observed whole u).value (in_part (part_at s i).name x)) (λ x. received y states inputs (endpoint i x)) given
        where
          given : (x : ℕ) → is_input (world_at y i) x ≡ true
              → IsGiven (design_at s i) (λ x. (observed whole u).value (in_part (part_at s i).name x)) x (received y states inputs (endpoint i x))
          given x is = (
            seen_input (value_name (name (design_at s i) x)) _ (value_of x (input_holds (design_at s i) x is)) (interface.declares.inputs x is).0 ∙ (all_has i x is).0,
            seen_input (tag_name (name (design_at s i) x)) _ (tag_of x (input_holds (design_at s i) x is)) (interface.declares.inputs x is).1 ∙ (all_has i x is).1,
          )

  -- ---- all cycles

  cycles : (stream : List (List Tagged)) → StreamFitsSystem y stream → (before : Option Valuation) (states : CompositeState) → PartsFit y states
      → ((i : ℕ) → i < length s.parts → Ready before states i) → (us : List Valuation) → IsRunAfter whole before (coded_stream (code_of s.order) stream) us
      → ((i : ℕ) → i < length s.parts → IsRunAfter (nets i) (option_map (through (named i)) before) (map (fed_numbers (named i) (nets i)) us) (map (through (named i)) us))
      → (i : ℕ) → i < length s.parts → Stand states stream us i (design_at s i)
  cycles [] fit before states rests ready [] r own i low = (tt, refl)
  cycles [] fit before states rests ready (u ∷ us) r own i low = absurd r
  cycles (inputs ∷ rest) fit before states rests ready [] r own i low = absurd r
  cycles (inputs ∷ rest) fit before states rests ready (u ∷ us) r own i low =
      let now = λ (j : ℕ) (l : j < length s.parts). (own j l).0 in
      let later =
      cycles rest fit.1 (Some u) (states_of (composite_cycle y inputs states)) ((fits y fine sized).1 inputs states fit.0 rests)
      (ready_later before states rests ready inputs fit.0 u r.0 now) us r.1 (λ j l. (own j l).1) i low
      in (
        (seen_stands before states rests ready inputs fit.0 u r.0 now i low, later.0),
        ap₂ (λ (ns : List ℕ) (rest : List (List ℕ)). ns ∷ rest) (seen_received before states rests ready inputs fit.0 u r.0 now i low) later.1,
      )

  ready_first : (i : ℕ) → i < length s.parts → Ready None (first_states y) i
  ready_first i low = (
    (net_stands i low).stands,
    begins_first (design_at s i) (width_of s.order) (part_at s i).sites (nets i) (net_stands i low).interface.declares.part (net_starts i low),
  )

  runs_stand : RunsStand s whole
  runs_stand =
      record {
        takes = λ stream fit. subst (λ is. AllFit is (coded_stream (code_of s.order) stream)) (sym links.inputs) (stream_taken s codes stream fit);
        stands = λ stream fit us r i low.
            let all =
            cycles stream fit None (first_states y) (fits y fine sized).0 ready_first us r
            (λ j l. runs (named j) (nets j) whole (each j l).netlist links.netlist (links.parts j l) (coded_stream (code_of s.order) stream) us r) i low
            in
            let there = subst (λ d. Stand (first_states y) stream us i d) (same_design i low) all in
            record { cycles = there.0; received = there.1 };
      }

pub linked_nets_stand : PartsRun → PartsShow → CompositesFit → StreamsOfPartsFit → FedInputsReceive → FreeInputsReceive → LinkedNetsStand
linked_nets_stand runs shows fits streams fed free s nets named whole codes fine sized each links =
    runs_stand runs shows fits streams fed free s nets named whole codes fine sized each links
