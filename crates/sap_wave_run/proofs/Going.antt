-- A step on a line, and the block of its cycle.
use Rattle.std.proofs.Common.{◌≡◌, ℕ, ◌+◌, List, [], ◌∷◌, ◌++◌, Option, Some, map, sym, ap, ◌∙◌, subst, arith}
use Rattle.sap_lattice.specs.Levels.{Levels}
use Rattle.sap_maps.specs.Maps.{Valuation}
use Rattle.sap_meaning.specs.Cycle.{Tagged as Given}
use Rattle.sap_net.specs.Prelude.{Net, IsRunAfter}
use Rattle.sap_cycle.specs.Running.{Shows, ShowsNext}
use Rattle.sap_stim.specs.declared.field.Field.{Field}
use Rattle.sap_stim.specs.Fits.{StreamFits}
use Rattle.sap_sim.specs.declared.steps.Plan.{Plan}
use Rattle.sap_sim.specs.Prelude.{numbers_of, Stepped, IsPlanned}
use Rattle.sap_wave.specs.declared.variable.Variable.{Variable}
use Rattle.sap_wave.specs.Prelude.{AddsBlock, Dumping, StandAt, numbers_seen, with_block, block_of, blocks_from, text_of, numbers_after, variables_of}
use Rattle.sap_wave.proofs.WrittenLines.{text_append}
use Rattle.sap_wave_run.specs.ToCome.{CanGoOn, IsToCome}

module _ (ls : Levels) (s new : Stepped Plan) (d after : Dumping) (places : List ℕ) (line : List Given) (next : ShowsNext s.runner (numbers_of ls s.runner.net line) new.runner)
    (net : new.runner.net ≡ s.runner.net) (planned : IsPlanned ls new) (fields : new.fields ≡ s.fields) (adds : AddsBlock new.runner d after)
    (variables : after.variables ≡ d.variables) (count : after.count ≡ d.count + 1) where
  can_still : (ahead : List (List Given)) → CanGoOn ls s d places (line ∷ ahead) → CanGoOn ls new after places ahead
  can_still ahead can = record {
    planned = planned;
    fits = subst (λ (fs : List Field). StreamFits ls fs ahead) (sym fields) can.fits.1;
    variables = variables ∙ can.variables ∙ ap variables_of (sym net);
    stand =
        subst (λ (m : Net). StandAt m after.variables places) (sym net)
        (subst (λ (xs : List Variable). StandAt s.runner.net xs places) (sym variables) can.stand);
    few = omega (arith, can.few, count);
  }

  module _ (ahead : List (List Given)) (text : List ℕ) (can : CanGoOn ls s d places (line ∷ ahead)) (before : Option Valuation) (shows : Shows s.runner before) where
    -- the text of the blocks behind one, by the dump that it is written behind
    abbrev behind : Dumping → Net → List Valuation → List ℕ
    behind e n vs = text_of (blocks_from (e.count + 1) e.variables e.last (map (numbers_after n) vs))

    from : (run : List Valuation) → IsRunAfter s.runner.net before (map (numbers_of ls s.runner.net) (line ∷ ahead)) run → text ≡ behind d s.runner.net run
        → (rest : List ℕ) × (text ≡ after.block ++ rest) × IsToCome ls new after places ahead rest
    from [] run is = absurd run
    from (v ∷ vs) run is =
        let n = s.runner.net in
        let numbers = numbers_after s.runner.net v in
        let shown : Shows new.runner (Some v) = next before v shows run.0 in
        let seen : numbers_seen new.runner.net (Some v) ≡ numbers_after s.runner.net v = ap (λ (m : Net). numbers_after m v) net in
        let now : after ≡ with_block d (numbers_after s.runner.net v) = adds (Some v) shown ∙ ap (with_block d) seen in
        let rest = behind (with_block d numbers) n vs in (
          rest,
          is
              ∙ text_append (block_of (d.count + 1) d.variables d.last numbers) (blocks_from (d.count + 1 + 1) d.variables numbers (map (numbers_after n) vs))
              ∙ ap (λ (e : Dumping). e.block ++ rest) (sym now),
          record {
            can = can_still ahead can;
            run = vs;
            goes_on = record {
              before = Some v;
              shows = shown;
              is_run = subst (λ (m : Net). IsRunAfter m (Some v) (map (numbers_of ls m) ahead) vs) (sym net) run.1;
            };
            is_text = sym (ap (λ (e : Dumping). behind e n vs) now) ∙ ap (λ (m : Net). behind after m vs) (sym net);
          },
        )

  pub block_more : (ahead : List (List Given)) (text : List ℕ) → IsToCome ls s d places (line ∷ ahead) text → (rest : List ℕ)
      × (text ≡ after.block ++ rest) × IsToCome ls new after places ahead rest
  block_more ahead text is = from ahead text is.can is.goes_on.before is.goes_on.shows is.run is.goes_on.is_run is.is_text

-- no line has no block
pub none_more : (ls : Levels) (s : Stepped Plan) (d : Dumping) (places : List ℕ) (text : List ℕ) → IsToCome ls s d places [] text → text ≡ []
none_more ls s d places text is = from is.run is.goes_on.is_run is.is_text where
  from : (run : List Valuation) → IsRunAfter s.runner.net is.goes_on.before [] run
      → text ≡ text_of (blocks_from (d.count + 1) d.variables d.last (map (numbers_after s.runner.net) run)) → text ≡ []
  from [] run e = e
  from (v ∷ vs) run e = absurd run
