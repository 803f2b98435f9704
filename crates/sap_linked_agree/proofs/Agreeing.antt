-- What stands for a system of well-formed designs has runs that agree, and look alike, where their streams agree.
use Rattle.std.proofs.Common.{◌≡◌, ◌<◌, ℕ, zero, suc, List, [], ◌∷◌, map, get_or, length, Some, None, refl, sym, ap, subst, arith}
use Rattle.std.specs.Prelude.{slice_get}
use Rattle.std.specs.List.{AllByRecursion, AllZip}
use Rattle.sap_lattice.specs.Prelude.{Laws, Levels, order_of, Codes, code_of}
use Rattle.sap_maps.specs.Maps.{Valuation}
use Rattle.sap_tree.specs.Syntax.{DesignTree}
use Rattle.sap_shape.specs.WellFormed.{WellFormed}
use Rattle.sap_meaning.specs.Prelude.{Tagged, Program, After, StreamsAgree}
use Rattle.sap_meaning.specs.Agree as meaning
use Rattle.sap_resolved.specs.Fill.{program_of}
use Rattle.sap_resolved.specs.Premises.Premises.{ProgramsAreFine}
use Rattle.sap_secure.specs.Designs.Designs.{DesignStatesRest, DesignNumbersFit}
use Rattle.sap_net.specs.Prelude.{Net, IsRun}
use Rattle.sap_net.proofs.Exists.{run_exists}
use Rattle.sap_net.proofs.Same.{run_same}
use Rattle.sap_interface.specs.Prelude.{Named, named_of, site_count_of, coded_stream, CyclesStand}
use Rattle.sap_link.specs.Systems.{Wire, System, part, IsPart}
use Rattle.sap_link.specs.Composites.{CompositeAfter, StreamFits, composite_run, first_states, run_of_part, stream_of_part}
use Rattle.sap_link.specs.Agree.{CompositeRunsAgree, RunsOfStreamsAgree}
use Rattle.sap_link.specs.Designs.{linked, WellLinked, LinkedRunsAgree, PartsOfLinkedRun}
use Rattle.sap_linked.specs.Prelude.{Part, NamedSystem, no_part, system_of, RunsStand, NamedDesign, part_of, trees, named_system}
use Rattle.sap_compile.specs.Agree.{CyclesAgree, CyclesLookAlike}
use Rattle.sap_compile.proofs.Agreeing.{AllStates, labelled_states, each_agrees, in_each, look_alike}
use Rattle.sap_linked_agree.specs.Agree.{seen_of, SystemRunsAgree, SystemRunsLookAlike}
use Rattle.sap_linked_agree.specs.Laws.{ModulesAgree, ModulesHaveOneRun, SystemsAgree}

same_programs : (ls : Levels) (ds : List NamedDesign) → map (program_of ls) (trees ds) ≡ map (λ (p : Part). p.design.program) (map (part_of ls) ds)
same_programs ls [] = refl
same_programs ls (d ∷ ds) = ap (λ (ps : List Program). program_of ls d.design ∷ ps) (same_programs ls ds)

same_system : (ls : Levels) (ds : List NamedDesign) (wires : List Wire) → linked ls (trees ds) wires ≡ system_of (named_system ls ds wires)
same_system ls ds wires = ap (λ (ps : List Program). record { order = order_of ls; parts = ps; wires = wires }) (same_programs ls ds)

-- the design of a part
pub record Behind (ls : Levels) (ds : List NamedDesign) (i : ℕ) : Type 0 where
  pub design : NamedDesign
  pub part : get_or (map (part_of ls) ds) i (no_part (order_of ls)) ≡ part_of ls design
  pub tree : slice_get (trees ds) i ≡ Some design.design
  pub formed : WellFormed ls design.design
  pub low : i < length (map (program_of ls) (trees ds))

behind : (ls : Levels) (ds : List NamedDesign) (i : ℕ) → i < length (map (part_of ls) ds) → AllByRecursion (WellFormed ls) (trees ds) → Behind ls ds i
behind ls [] i low a = absurd (omega arith)
behind ls (d ∷ ds) zero low a = record { design = d; part = refl; tree = refl; formed = a.0; low = omega arith }
behind ls (d ∷ ds) (suc i) low a =
    let b = behind ls ds i (omega arith) a.1 in
    record { design = b.design; part = b.part; tree = b.tree; formed = b.formed; low = let l = b.low in omega (arith, l) }

-- a part of composites that agree
part_agrees : (y : System) (l i : ℕ) (p : Program) → part y i ≡ p → p.world.order ≡ y.order → IsPart y i → (as' bs : List CompositeAfter) → CompositeRunsAgree y l as' bs
    → meaning.RunsAgree p l (run_of_part i as') (run_of_part i bs)
part_agrees y l i p same order is [] [] h = tt
part_agrees y l i p same order is [] (b ∷ bs) h = absurd h
part_agrees y l i p same order is (a ∷ as') [] h = absurd h
part_agrees y l i p same order is (a ∷ as') (b ∷ bs) h = (
  (
    subst (λ (q : Program). meaning.StatesAgree q l (a i).store (b i).store) same (h.0.states i is),
    subst (λ o. meaning.RefusalsAgree o l (a i).refused (b i).refused) (sym order) (h.0.refusals i is),
  ),
  part_agrees y l i p same order is as' bs h.1,
)

part_is : (ls : Levels) (ds : List NamedDesign) (wires : List Wire) (i : ℕ) (d : DesignTree) → slice_get (trees ds) i ≡ Some d
    → part (linked ls (trees ds) wires) i ≡ program_of ls d
part_is ls ds wires i d at = found (trees ds) i at
  where
    found : (ts : List DesignTree) (i : ℕ) → slice_get ts i ≡ Some d → get_or (map (program_of ls) ts) i (Rattle.sap_link.specs.Systems.no_part (order_of ls)) ≡ program_of ls d
    found [] i h = absurd (cc)
    found (t ∷ ts) zero h = let e : t ≡ d = cc in ap (program_of ls) e
    found (t ∷ ts) (suc i) h = found ts i h

module _ (agree : LinkedRunsAgree) (parts : PartsOfLinkedRun) (keeps : DesignStatesRest) (fit : DesignNumbersFit) (fine : ProgramsAreFine)
    (ls : Levels) (ds : List NamedDesign) (wires : List Wire) (laws : Laws (order_of ls)) (codes : Codes (order_of ls)) (well : WellLinked ls (trees ds) wires)
    (n : Net) (stands : RunsStand (named_system ls ds wires) n) where
  abbrev s : NamedSystem
  s = named_system ls ds wires

  abbrev y : System
  y = linked ls (trees ds) wires

  module _ (l : ℕ) (a b : List (List Tagged)) (fa : StreamFits (system_of s) a) (fb : StreamFits (system_of s) b) (same : StreamsAgree (order_of ls) l a b)
      (vs us : List Valuation) (rv : IsRun n (coded_stream (code_of (order_of ls)) a) vs) (ru : IsRun n (coded_stream (code_of (order_of ls)) b) us) where
    -- a part of the composite run on a stream
    abbrev run_at : ℕ → List (List Tagged) → List After
    run_at i stream = run_of_part i (composite_run y stream)

    fits : (stream : List (List Tagged)) → StreamFits (system_of s) stream → StreamFits y stream
    fits stream f = subst (λ (z : System). StreamFits z stream) (sym (same_system ls ds wires)) f

    module _ (i : ℕ) (low : i < length s.parts) (d : Behind ls ds i) where
      abbrev named : Named
      named = named_of ls d.design.design

      abbrev sites : ℕ
      sites = site_count_of d.design.design

      states : (stream : List (List Tagged)) → StreamFits y stream → AllStates named (run_at i stream)
      states stream f =
          let p = parts ls (trees ds) wires laws well stream f i d.design.design d.tree in
          subst (λ (run : List After). AllStates named run) (sym p.0)
          (labelled_states ls laws keeps fit d.design.design d.formed (stream_of_part y (first_states y) stream i) p.1)

      stands_at : (stream : List (List Tagged)) → StreamFits (system_of s) stream → (ws : List Valuation) → IsRun n (coded_stream (code_of (order_of ls)) stream) ws
          → CyclesStand named sites (seen_of (part_of ls d.design) n ws) (run_at i stream)
      stands_at stream f ws run =
          subst (λ (z : System). CyclesStand named sites (seen_of (part_of ls d.design) n ws) (run_of_part i (composite_run z stream))) (sym (same_system ls ds wires))
          (subst (λ (p : Part). CyclesStand p.design p.sites (seen_of p n ws) (run_of_part i (composite_run (system_of s) stream))) d.part
          (stands.stands stream f ws run i low).cycles)

      pub agrees : AllZip (CyclesAgree named sites l) (seen_of (part_of ls d.design) n vs) (seen_of (part_of ls d.design) n us)
      agrees =
          each_agrees named sites l (seen_of (part_of ls d.design) n vs) (seen_of (part_of ls d.design) n us) (run_at i a) (run_at i b)
          (stands_at a fa vs rv) (stands_at b fb us ru) (states a (fits a fa)) (states b (fits b fb))
          (part_agrees y l i named.program (part_is ls ds wires i d.design.design d.tree) refl d.low (composite_run y a) (composite_run y b)
          (agree ls (trees ds) wires laws well l a b same))

      pub looks_alike : AllZip (CyclesLookAlike named sites l) (seen_of (part_of ls d.design) n vs) (seen_of (part_of ls d.design) n us)
      looks_alike =
          in_each (CyclesAgree named sites l) (CyclesLookAlike named sites l)
          (look_alike named codes.within sites l (fine ls d.design.design laws d.formed)) (seen_of (part_of ls d.design) n vs) (seen_of (part_of ls d.design) n us) agrees

  pub runs_agree : SystemRunsAgree s n
  runs_agree l a b fa fb same vs us rv ru i low =
      let d = behind ls ds i low well.designs_formed in
      subst (λ (p : Part). AllZip (CyclesAgree p.design p.sites l) (seen_of p n vs) (seen_of p n us)) (sym d.part) (agrees l a b fa fb same vs us rv ru i low d)

  pub runs_look_alike : SystemRunsLookAlike s n
  runs_look_alike l a b fa fb same vs us rv ru i low =
      let d = behind ls ds i low well.designs_formed in
      subst (λ (p : Part). AllZip (CyclesLookAlike p.design p.sites l) (seen_of p n vs) (seen_of p n us)) (sym d.part) (looks_alike l a b fa fb same vs us rv ru i low d)

pub systems_agree : LinkedRunsAgree → SystemsAgree
systems_agree agree ls ds wires laws well = subst RunsOfStreamsAgree (same_system ls ds wires) (agree ls (trees ds) wires laws well)

pub modules_agree : LinkedRunsAgree → PartsOfLinkedRun → DesignStatesRest → DesignNumbersFit → ProgramsAreFine → ModulesAgree
modules_agree agree parts keeps fit fine ls ds wires laws codes well n stands =
    (runs_agree agree parts keeps fit fine ls ds wires laws codes well n stands, runs_look_alike agree parts keeps fit fine ls ds wires laws codes well n stands)

pub one_run : ModulesHaveOneRun
one_run s n rules stands stream fits =
    let inputs = coded_stream (code_of s.order) stream in
    let r = run_exists n rules inputs None tt (stands.takes stream fits) in
    record { run = r.0; is_run = r.1; only = λ other is. run_same n rules inputs None None r.0 other tt r.1 is }
