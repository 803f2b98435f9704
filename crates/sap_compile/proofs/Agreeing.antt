-- What stands for a well-formed design has runs that agree, and look alike, where their streams agree.
use Rattle.sap_lemmas.proofs.Common.{◌≡◌, ◌≤◌, ℕ, true, ◌==◌, bit_or, List, [], ◌∷◌, map, inl, inr, sym, ap, ◌∙◌, subst, AllZip, cases_Bool}
use Rattle.sap_meaning.proofs.ProgramLemmas.{register_no_memory_test, state_no_memory_test}
use Rattle.sap_lattice.specs.Prelude.{Order, Laws, Levels, order_of, Codes}
use Rattle.sap_maps.specs.Maps.{Valuation}
use Rattle.sap_tree.specs.Syntax.{DesignTree}
use Rattle.sap_shape.specs.WellFormed.{WellFormed}
use Rattle.sap_meaning.specs.Prelude.{entity, Store, own, start, start_whole, home, Refusal, After, Tagged, cycle, run_from, FineProgram, Resting, InputsFit, StreamFits, first, labelled_run, Low, seen}
use Rattle.sap_meaning.specs.State.{Fits}
use Rattle.sap_meaning.specs.Agree as meaning
use Rattle.sap_meaning.proofs.Paths.{coded_alike}
use Rattle.sap_resolved.specs.Fill.{program_of}
use Rattle.sap_resolved.specs.Premises.Premises.{ProgramsAreFine}
use Rattle.sap_secure.specs.Designs.Designs.{RunsOfDesignsAgree, DesignStatesRest, DesignNumbersFit}
use Rattle.sap_net.specs.Prelude.{SomeRun, OneRun, Net, observed}
use Rattle.sap_interface.specs.Prelude.{Named, world, IsRefusedAt, StandsFor, coded_stream, CyclesStand, named_of, site_count_of, StandsForDesign}
use Rattle.sap_compile.specs.Agree.{IsState, CyclesAgree, IsToldAt, CyclesLookAlike, RunsAgree, RunsLookAlike}
use Rattle.sap_compile.specs.Runs.{HasOneRunOnStreams}
use Rattle.sap_compile.proofs.Paths.{are_children, paths_look_alike}

-- refusals at or below l

pub in_seen : (o : Order) (l : ℕ) (rs : List Refusal) (k t : ℕ) → IsRefusedAt rs k t → Low o l t → IsRefusedAt (seen o l rs) k t
in_seen o l [] k t h low = h
in_seen o l (r ∷ rs) k t (inl e) low = (let here : o.le r.level l ≡ true = subst (λ (x : ℕ). o.le x l ≡ true) (sym e.1) low in rw here (inl e))
in_seen o l (r ∷ rs) k t (inr h) low =
    elim (cases_Bool (o.le r.level l)) [ inl e ↦ rw e (inr (in_seen o l rs k t h low)) | inr e ↦ rw e (in_seen o l rs k t h low) ]

pub from_seen : (o : Order) (l : ℕ) (rs : List Refusal) (k t : ℕ) → IsRefusedAt (seen o l rs) k t → IsRefusedAt rs k t
from_seen o l [] k t h = h
from_seen o l (r ∷ rs) k t h =
    elim (cases_Bool (o.le r.level l)) [
      | inl e ↦ kept (from_seen o l rs k t) (rw e at h)
      | inr e ↦ inr (from_seen o l rs k t (rw e at h))
    ]
  where
    kept : (IsRefusedAt (seen o l rs) k t → IsRefusedAt rs k t) → IsRefusedAt (r ∷ seen o l rs) k t → IsRefusedAt (r ∷ rs) k t
    kept f (inl i) = inl i
    kept f (inr i) = inr (f i)

-- one cycle

module _ (d : Named) (within : (x y : ℕ) → (bit_or (d.code x) (d.code y) == d.code y) ≡ (world d).order.le x y) (sites l : ℕ) where
  low_by_code : (t r : ℕ) → d.code r ≡ d.code t → Low (world d).order l t → Low (world d).order l r
  low_by_code t r e low = sym (within r l) ∙ ap (λ (c : ℕ). bit_or c (d.code l) == d.code l) e ∙ within t l ∙ low

  told : (k n : ℕ) → 1 ≤ k → k ≤ sites → (v u : Valuation) (a b : After) → StandsFor d sites v a.store a.refused → StandsFor d sites u b.store b.refused
      → seen (world d).order l a.refused ≡ seen (world d).order l b.refused → IsToldAt d l v k n → IsToldAt d l u k n
  told k n i j v u a b p q same (is, at, low) =
      let o = (world d).order in
      let r = (p.refusals k i j).0 is in
      let coded : d.code r.0 ≡ n = sym (p.refusal_levels k r.0 r.1) ∙ at in
      let below : Low o l r.0 = low_by_code low.0 r.0 (coded ∙ sym low.2) low.3 in
      let other : IsRefusedAt b.refused k r.0 =
      from_seen o l b.refused k r.0 (subst (λ (rs : List Refusal). IsRefusedAt rs k r.0) same (in_seen o l a.refused k r.0 r.1 below)) in
      ((q.refusals k i j).1 (r.0, other), q.refusal_levels k r.0 other ∙ coded, low)

  pub look_alike : FineProgram d.program → (v u : Valuation) → CyclesAgree d sites l v u → CyclesLookAlike d sites l v u
  look_alike fine v u c =
      let w = world d in
      let one = c.one_stands in
      let other = c.other_stands in
      let s = c.one.store in
      let t = c.other.store in
      record {
        registers = λ x is.
            coded_alike w.order d.code l _ _ _ _ _ _ (λ e. one.register_values x is ∙ e ∙ sym (other.register_values x is))
            (one.register_tags x is) (other.register_tags x is) (c.one_is_state.fits.levels (own x)) (c.other_is_state.fits.levels (own x)) (c.states.registers x is);
        cells = λ m i is enforced below.
            coded_alike w.order d.code l _ _ _ _ _ _ (λ e. one.cells m i is below ∙ e ∙ sym (other.cells m i is below))
            (one.cell_tags m i is enforced below) (other.cell_tags m i is enforced below) (c.one_is_state.fits.levels (home w (start m i)))
            (c.other_is_state.fits.levels (home w (start m i))) (c.states.enforced_memories m i is enforced).0;
        memories = λ m is dynamic.
            coded_alike w.order d.code l _ _ _ _ _ _ (λ e i below. one.cells m i is below ∙ e i ∙ sym (other.cells m i is below))
            (one.memory_tags m is dynamic) (other.memory_tags m is dynamic) (c.one_is_state.fits.levels (start_whole m)) (c.other_is_state.fits.levels (start_whole m))
            (c.states.dynamic_memories m is dynamic).0;
        register_tags = λ x is enforced low.
            one.register_tags x is ∙ ap (λ (y : ℕ). d.code y)
            (c.states.enforced_levels (own x) (register_no_memory_test (entity w x).kind is) enforced low) ∙ sym (other.register_tags x is);
        cell_tags = λ m i is enforced low below.
            one.cell_tags m i is enforced below ∙ ap (λ (y : ℕ). d.code y) (c.states.enforced_levels (start m i) is enforced low) ∙ sym (other.cell_tags m i is enforced below);
        state_tags = λ x is below enforced low.
            one.state_tags x is below ∙ ap (λ (y : ℕ). d.code y)
            (c.states.enforced_levels (own x) (state_no_memory_test (entity w x).kind is) enforced low) ∙ sym (other.state_tags x is below);
        current = (are_children d sites v s c.one.refused one c.one_is_state, are_children d sites u t c.other.refused other c.other_is_state);
        paths = paths_look_alike d l sites v u c fine;
        refusals = λ k n i j.
            (told k n i j v u c.one c.other one other c.refusals, told k n i j u v c.other c.one other one (sym c.refusals));
      }

-- every cycle

abbrev pub AllStates : Named → List After → Type 0
AllStates d [] = Unit {0}
AllStates d (a ∷ rest) = IsState d a.store × AllStates d rest

module _ (d : Named) (keeps : (inputs : List Tagged) (s : Store) → Resting (world d) s → Resting (world d) (cycle d.program inputs s).store)
    (fits : (inputs : List Tagged) (s : Store) → InputsFit (world d) inputs → Fits (world d) s → Fits (world d) (cycle d.program inputs s).store) where
  all_states : (s : Store) (stream : List (List Tagged)) → StreamFits (world d) stream → IsState d s → AllStates d (run_from d.program s stream)
  all_states s [] fit is = tt
  all_states s (inputs ∷ rest) fit is =
      let next : IsState d (cycle d.program inputs s).store = record { rests = keeps inputs s is.rests; fits = fits inputs s fit.0 is.fits } in
      (next, all_states (cycle d.program inputs s).store rest fit.1 next)

pub each_agrees : (d : Named) (sites l : ℕ) (vs us : List Valuation) (as' bs : List After) → CyclesStand d sites vs as' → CyclesStand d sites us bs
    → AllStates d as' → AllStates d bs → meaning.RunsAgree d.program l as' bs → AllZip (CyclesAgree d sites l) vs us
each_agrees d sites l [] [] as' bs p q s t r = tt
each_agrees d sites l [] (u ∷ us) [] [] p q s t r = absurd q
each_agrees d sites l [] (u ∷ us) [] (b ∷ bs) p q s t r = absurd r
each_agrees d sites l [] (u ∷ us) (a ∷ as') bs p q s t r = absurd p
each_agrees d sites l (v ∷ vs) us [] bs p q s t r = absurd p
each_agrees d sites l (v ∷ vs) us (a ∷ as') [] p q s t r = absurd r
each_agrees d sites l (v ∷ vs) [] (a ∷ as') (b ∷ bs) p q s t r = absurd q
each_agrees d sites l (v ∷ vs) (u ∷ us) (a ∷ as') (b ∷ bs) p q s t r = (
  record {
    one = a;
    other = b;
    one_stands = p.0;
    other_stands = q.0;
    one_is_state = s.0;
    other_is_state = t.0;
    states = r.0.0;
    refusals = r.0.1;
  },
  each_agrees d sites l vs us as' bs p.1 q.1 s.1 t.1 r.1,
)

pub in_each : (P Q : Valuation → Valuation → Type 0) → ((v u : Valuation) → P v u → Q v u) → (vs us : List Valuation) → AllZip P vs us → AllZip Q vs us
in_each P Q f [] [] h = h
in_each P Q f [] (u ∷ us) h = h
in_each P Q f (v ∷ vs) [] h = h
in_each P Q f (v ∷ vs) (u ∷ us) h = (f v u h.0, in_each P Q f vs us h.1)

-- what a design's labelled run comes to are states
pub labelled_states : (ls : Levels) (laws : Laws (order_of ls)) (keeps : DesignStatesRest) (fit : DesignNumbersFit) (d : DesignTree) → WellFormed ls d
    → (stream : List (List Tagged)) → StreamFits (world (named_of ls d)) stream → AllStates (named_of ls d) (labelled_run (program_of ls d) stream)
labelled_states ls laws keeps fit d formed stream fits =
    let k = keeps ls d laws formed in
    let f = fit ls d laws formed in
    all_states (named_of ls d) k.1 f.1 (first (program_of ls d).world) stream fits (record { rests = k.0; fits = f.0 })

module _ (ls : Levels) (laws : Laws (order_of ls)) (codes : Codes (order_of ls)) (agree : RunsOfDesignsAgree) (keeps : DesignStatesRest)
    (fit : DesignNumbersFit) (fine : ProgramsAreFine)
    (d : DesignTree) (n : Net) (formed : WellFormed ls d) (stands : StandsForDesign ls d n) where
  states_of : (stream : List (List Tagged)) → StreamFits (world (named_of ls d)) stream → AllStates (named_of ls d) (labelled_run (program_of ls d) stream)
  states_of = labelled_states ls laws keeps fit d formed

  pub runs_agree : RunsAgree ls d n
  runs_agree = λ l a b fa fb same vs us rv ru.
      each_agrees (named_of ls d) (site_count_of d) l (map (observed n) vs) (map (observed n) us) (labelled_run (program_of ls d) a) (labelled_run (program_of ls d) b)
      (stands.stands a fa vs rv) (stands.stands b fb us ru) (states_of a fa) (states_of b fb) (agree ls d laws formed l a b same)

  pub runs_look_alike : RunsLookAlike ls d n
  runs_look_alike = λ l a b fa fb same vs us rv ru.
      in_each (CyclesAgree (named_of ls d) (site_count_of d) l) (CyclesLookAlike (named_of ls d) (site_count_of d) l)
      (look_alike (named_of ls d) codes.within (site_count_of d) l (fine ls d laws formed)) (map (observed n) vs) (map (observed n) us) (runs_agree l a b fa fb same vs us rv ru)

-- one run

pub one_run : (ls : Levels) (d : DesignTree) (n : Net) → SomeRun n → OneRun n → StandsForDesign ls d n → HasOneRunOnStreams ls d n
one_run ls d n some one stands = λ stream fits.
    let inputs = coded_stream (named_of ls d).code stream in
    let r = some inputs (stands.takes stream fits) in
    record { run = r.0; is_run = r.1; only = λ other is. one inputs r.0 other r.1 is }
