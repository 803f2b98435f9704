-- What a runner shows that is stepped on one line after another.
use Rattle.sap_lemmas.proofs.Common.{◌≡◌, ◌<◌, List, [], ◌∷◌, ◌++◌, Option, None, Some, length, map, refl, sym, subst, arith, last_or}
use Rattle.sap_tree.specs.Syntax.{DesignTree}
use Rattle.sap_lattice.specs.Prelude.{Levels, order_of, Laws}
use Rattle.sap_maps.specs.Maps.{Valuation}
use Rattle.sap_meaning.specs.Prelude.{World, After, Refusal, Store, Tagged, cycle, run_from, InputsFit, StreamFits, first, labelled_run, program_sites, refused_sites, Sublist}
use Rattle.sap_net.specs.Prelude.{Net, SomeRun, observed}
use Rattle.sap_cycle.specs.Running.{Running, Shows, ShowsNext}
use Rattle.sap_interface.specs.Prelude.{CyclesStand, named_of, StandsForDesign, StandsFor}
use Rattle.sap_interface.specs.Designs as interface
use Rattle.sap_resolved.specs.Fill.{program_of}
use Rattle.sap_resolved.specs.Worlds.{world_of}
use Rattle.sap_secure.specs.CheckSites.Numbering.{OneNumbering}
use Rattle.sap_sim.specs.Prelude.{design_fields, read_for, Stepped}
use Rattle.sap_sim.specs.Stepped as stepped
use Rattle.sap_sim.proofs.labelled.Designs.{fit_stream}
use Rattle.sap_sim.proofs.Stepped.{after_line, unstepped_shows}
use Rattle.sap_stim.specs.Fits.{StimulusFits}
use Rattle.sap_trace.specs.Given.{given}
use Rattle.sap_trace.specs.Shows.{IsSteppedOn, ShowsRefused, StepsShowRefused, last_refused}
use Rattle.sap_trace.specs.Seen.{HasSiteWires}
use Rattle.sap_trace.proofs.Designs.{site_wires}

-- a runner alone
abbrev alone : Running → Stepped (Unit {0})
alone r = record { runner = r; plan = tt; fields = []; room = 0 }

abbrev IsAny : Stepped (Unit {0}) → Type 0
IsAny s = Unit {0}

-- lines that fit, and one more
fit_more : (w : World) (lines : List (List Tagged)) (line : List Tagged) → StreamFits w lines → InputsFit w line → StreamFits w (lines ++ line ∷ [])
fit_more w [] line fit fits = (fits, tt)
fit_more w (xs ∷ lines) line fit fits = (fit.0, fit_more w lines line fit.1 fits)

-- stepped on a line more
stepped_on : (ls : Levels) (d : DesignTree) (n : Net) (lines : List (List Tagged)) (line : List Tagged) (old new : Running)
    → IsSteppedOn ls d n lines old → InputsFit (world_of ls d) line
    → new.net ≡ old.net → ShowsNext old (given ls line) new → IsSteppedOn ls d n (lines ++ line ∷ []) new
stepped_on ls d n lines line old new at fits same next =
    let before : stepped.IsAfter IsAny n (given ls) lines (alone old) = record { net = at.net; planned = tt; shows = at.shows } in
    let after = after_line (λ m. given ls) IsAny n (alone old) lines line new before same next tt in
    record { net = after.net; fit = fit_more (world_of ls d) lines line at.fit fits; shows = after.shows }

module _ (ls : Levels) (d : DesignTree) (n : Net)
    (in_order : (inputs : List Tagged) (s : Store) → Sublist (refused_sites (cycle (program_of ls d) inputs s).refused) (program_sites (program_of ls d))) where
  -- the last of some cycles, and the state and the refusals for which it stands
  record LastStands (vs : List Valuation) (rs : List Refusal) : Type 0 where
    last : Valuation
    state : Store
    is_last : (before : Option Valuation) → last_or before vs ≡ Some last
    stands : StandsFor (named_of ls d) (interface.site_count_of d) (observed n last) state rs
    sites : Sublist (refused_sites rs) (program_sites (program_of ls d))

  last_stands : (vs : List Valuation) (stream : List (List Tagged)) (s : Store) → 0 < length stream
      → CyclesStand (named_of ls d) (interface.site_count_of d) (map (observed n) vs) (run_from (program_of ls d) s stream)
      → LastStands vs (last_refused (run_from (program_of ls d) s stream))
  last_stands vs [] s l h = absurd (omega arith)
  last_stands [] (xs ∷ stream) s l h = absurd h
  last_stands (v ∷ []) (xs ∷ []) s l h =
      let a : After = cycle (program_of ls d) xs s in
      record { last = v; state = a.store; is_last = λ before. refl; stands = h.0; sites = in_order xs s }
  last_stands (v ∷ (w ∷ ws)) (xs ∷ []) s l h = absurd h.1
  last_stands (v ∷ []) (xs ∷ (ys ∷ stream)) s l h = absurd h.1
  last_stands (v ∷ (w ∷ ws)) (xs ∷ (ys ∷ stream)) s l h =
      let a : After = cycle (program_of ls d) xs s in
      let r = last_stands (w ∷ ws) (ys ∷ stream) a.store (omega arith) h.1 in
      record { last = r.last; state = r.state; is_last = λ before. r.is_last (Some v); stands = r.stands; sites = r.sites }

  module _ (stands : StandsForDesign ls d n) (laws : Laws (order_of ls)) (one : OneNumbering ls d) (fit : StimulusFits) (runs : SomeRun n) where
    shows_refused : (lines : List (List Tagged)) (r : Running) → 0 < length lines → IsSteppedOn ls d n lines r
        → ShowsRefused ls d r (last_refused (labelled_run (program_of ls d) lines))
    shows_refused lines r some at =
        let run = runs (map (given ls) lines) (stands.takes lines at.fit) in
        let e = last_stands run.0 lines (first (program_of ls d).world) some (stands.stands lines at.fit run.0 run.1) in
        let refused = last_refused (labelled_run (program_of ls d) lines) in
        record {
          wires = subst (λ (m : Net). HasSiteWires ls d m) (sym at.net) (site_wires ls d n stands);
          cycle = e.last;
          state = e.state;
          shows = subst (Shows r) (e.is_last None) (at.shows run.0 run.1);
          stands = subst (λ (m : Net). StandsFor (named_of ls d) (interface.site_count_of d) (observed m e.last) e.state refused) (sym at.net) e.stands;
          in_order = e.sites;
        }

    pub steps_show : StepsShowRefused ls d n
    steps_show = record {
      reads = λ bytes. fit_stream ls d (read_for ls d bytes).stream (fit ls (design_fields d) bytes laws.bottom_is_level);
      takes = λ line fits. (stands.takes (line ∷ []) (fits, tt)).0;
      begins = λ r net shows. record { net = net; fit = tt; shows = unstepped_shows n (given ls) r shows };
      goes_on = stepped_on ls d n;
      gives = shows_refused;
    }
