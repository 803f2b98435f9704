-- The dump of a netlist's run begins with its head, and goes on with the blocks of its cycles.
use Rattle.std.proofs.Common.{◌≡◌, ℕ, ◌+◌, ◌≤◌, List, ◌++◌, length, map, sym, ap, ◌∙◌, subst, arith}
use Rattle.std.specs.Prelude.{◌^◌, None}
use Rattle.sap_lattice.specs.Prelude.{Codes, Levels, order_of}
use Rattle.sap_maps.specs.Maps.{Valuation}
use Rattle.sap_meaning.specs.Cycle.{Tagged as Given}
use Rattle.sap_net.specs.Prelude.{IsNetlist, SomeRun, Net}
use Rattle.sap_stim.specs.declared.field.Field.{Field}
use Rattle.sap_stim.specs.Fits.{StreamFits}
use Rattle.sap_sim.specs.Prelude.{numbers_of, IsRunOn}
use Rattle.sap_sim.proofs.Fits.{stream_fits}
use Rattle.sap_wave.specs.Prelude.{Dumping, StandAt, blocks_from, head, text_of, initial_numbers, numbers_after, variables_of}
use Rattle.sap_wave.proofs.WrittenLines.{text_append}
use Rattle.sap_wave_run.specs.declared.recording.Recording.{Recording}
use Rattle.sap_wave_run.specs.Dumped.{IsDumpOn}
use Rattle.sap_wave_run.specs.Ready.{IsReady}
use Rattle.sap_wave_run.specs.ToCome.{IsToCome}

-- the text of the blocks behind the first
abbrev pub blocks_text : Net → List Valuation → List ℕ
blocks_text n run = text_of (blocks_from 1 (variables_of n) (initial_numbers n) (map (numbers_after n) run))

module _ (ls : Levels) (r : Recording) (stream : List (List Given)) (ready : IsReady ls r.simulation.runner.net r) (fits : StreamFits ls r.simulation.fields stream) where
  abbrev n : Net
  n = r.simulation.runner.net

  -- it has a run
  pub some_run : Codes (order_of ls) → IsNetlist n → SomeRun n → (run : List Valuation) × IsRunOn n (numbers_of ls n) stream run
  some_run codes net some =
      let right = subst (λ (fs : List Field). StreamFits ls fs stream) ready.planned.fields fits in
      some (map (numbers_of ls n) stream) (stream_fits ls codes n net stream right)

  module _ (run : List Valuation) (is_run : IsRunOn n (numbers_of ls n) stream run) where
    pub comes : length stream ≤ 2 ^ 48 → IsToCome ls r.simulation r.dumper r.places.items stream (blocks_text n run)
    comes short = record {
      can = record {
        planned = ready.planned;
        fits = fits;
        variables = ap (λ (d : Dumping). d.variables) ready.begun;
        stand = subst (λ (d : Dumping). StandAt n d.variables r.places.items) (sym ready.begun) ready.places;
        few = let none : r.dumper.count ≡ 0 = ap (λ (d : Dumping). d.count) ready.begun in omega (arith, short, none);
      };
      run = run;
      goes_on = record { before = None; shows = ready.unstepped; is_run = is_run };
      is_text = ap (λ (d : Dumping). text_of (blocks_from (d.count + 1) d.variables d.last (map (numbers_after n) run))) (sym ready.begun);
    }

    pub whole : (beginning : List ℕ) → beginning ≡ r.head → IsDumpOn n (numbers_of ls n) stream (beginning ++ blocks_text n run)
    whole beginning is = record {
      run = run;
      is_run = is_run;
      is_dump =
          ap (λ (text : List ℕ). text ++ blocks_text n run) (is ∙ ready.head)
          ∙ sym (text_append (head (variables_of n) (initial_numbers n)) (blocks_from 1 (variables_of n) (initial_numbers n) (map (numbers_after n) run)));
    }
