-- A netlist that is stepped on line after line, and its rows.
use Rattle.sap_lemmas.proofs.Common.{◌≡◌, ℕ, ◌<◌, List, [], ◌∷◌, ◌++◌, Option, Some, length, map, refl, sym, ap, ◌∙◌, subst, All, length-map}
use Rattle.sap_stim.proofs.FitsLemmas.{line_count}
use Rattle.sap_lattice.specs.Prelude.{Levels, order_of, Codes, Laws}
use Rattle.sap_maps.specs.Maps.{Valuation}
use Rattle.sap_meaning.specs.Cycle.{Tagged as Given}
use Rattle.sap_net.specs.Prelude.{Net, IsNetlist, SomeRun, InputsFit, IsRun, observed, tag_name, value_name}
use Rattle.sap_cycle.specs.Running.{Running, Shows, ShowsNext, seen}
use Rattle.sap_stim.specs.declared.field.Field.{Field}
use Rattle.sap_stim.specs.Fits.{LineFits, StimulusFits}
use Rattle.sap_stim.specs.Rows.{row_text, shown_of}
use Rattle.sap_sim.specs.declared.steps.Plan.{Plan}
use Rattle.sap_sim.specs.Prelude.{field_of, fields_of, tag_width, with_field, IsPlan, number_from, seen_at, source_place, numbers_of, shown_registers, row_of, IsSimulated, Rows, Stepped, IsPlanned, IsAfter, HasRowMore, AreRows, RowsAddUp}
use Rattle.sap_sim.specs.Simulated.{read_for}
use Rattle.sap_sim.proofs.Fits.{line_fits, stream_fits}
use Rattle.sap_sim.proofs.Origins.{numbers_are, sources_within}
use Rattle.sap_sim.proofs.Stepped.{line_split, told_begins, told_goes_on, told_part, cycle_shown, after_line}
use Rattle.sap_sim.proofs.Seen.{places_count, row_is, seen_values}

module _ (ls : Levels) (n : Net) where
  abbrev row : ℕ → Valuation → List ℕ
  row = row_of ls (shown_registers ls n)

  rows_part : (bytes text : List ℕ) (lines more : List (List Given)) (rows : Rows) → (read_for ls n bytes).stream ≡ lines ++ more
      → AreRows ls n lines text → IsSimulated ls n bytes rows
      → (rest : List ℕ) × (rows.text ≡ text ++ rest)
  rows_part bytes text lines more rows is begun sim =
      let p = told_part n (numbers_of ls n) row lines more text sim.run
      (subst (λ (stream : List (List Given)). IsRun n (map (numbers_of ls n) stream) sim.run) is sim.is_run) begun in
      (p.0, sim.text ∙ p.1)

  pub rows_whole : IsNetlist n → Codes (order_of ls) → Laws (order_of ls) → StimulusFits → SomeRun n → (bytes text : List ℕ) → AreRows ls n (read_for ls n bytes).stream text
      → IsSimulated ls n bytes (record { text = text; fault = (read_for ls n bytes).fault })
  rows_whole net codes laws fit some bytes text are =
      let stream = (read_for ls n bytes).stream in
      let w = some (map (numbers_of ls n) stream) (stream_fits ls codes n net stream (fit ls (fields_of ls n) bytes laws.bottom_is_level)) in
      record { fault = refl; run = w.0; is_run = w.1; text = are w.0 w.1 }

  pub add_up : IsNetlist n → Codes (order_of ls) → Laws (order_of ls) → StimulusFits → SomeRun n → RowsAddUp ls n
  add_up net codes laws fit some =
      record {
        begins = told_begins n (numbers_of ls n) row;
        goes_on = told_goes_on n (numbers_of ls n) row;
        whole = rows_whole net codes laws fit some;
        part = rows_part;
      }

-- what a plan gives on a line that fits
module _ (ls : Levels) (s : Stepped Plan) (line : List Given) (planned : IsPlanned ls s) (fits : LineFits ls s.fields line) where
  fits_net : LineFits ls (fields_of ls s.runner.net) line
  fits_net = subst (λ (fs : List Field). LineFits ls fs line) planned.fields fits

  pub sources_there : All (λ x. source_place x < length line) s.plan.sources.items
  sources_there =
      let tag = tag_width ls in
      let is = s.runner.net.inputs in
      sources_within tag is (length line) (sym (length-map (with_field tag is) (field_of tag is))
      ∙ sym (line_count ls (fields_of ls s.runner.net) line fits_net)) s.plan.sources.items planned.plan.sources

  pub numbers_right : map (number_from ls line) s.plan.sources.items ≡ numbers_of ls s.runner.net line
  numbers_right = ap (map (number_from ls line)) planned.plan.sources ∙ numbers_are ls s.runner.net.inputs line s.runner.net.inputs

  pub inputs_right : (numbers : List ℕ) → Codes (order_of ls) → IsNetlist s.runner.net
      → numbers ≡ map (number_from ls line) s.plan.sources.items → InputsFit s.runner.net.inputs numbers
  inputs_right numbers codes net is = subst (InputsFit s.runner.net.inputs) (sym (is ∙ numbers_right)) (line_fits ls codes s.runner.net net line fits_net)

-- as many numbers as names
pub values_count : (ls : Levels) (s : Stepped Plan) → IsPlanned ls s → length s.plan.shown.values.items ≡ length s.plan.shown.names.items
values_count ls s planned =
    places_count s.runner.net (map value_name s.plan.shown.names.items) s.plan.shown.values.items planned.plan.values ∙ length-map s.plan.shown.names.items value_name

pub tags_count : (ls : Levels) (s : Stepped Plan) → IsPlanned ls s → length s.plan.shown.tags.items ≡ length s.plan.shown.names.items
tags_count ls s planned =
    places_count s.runner.net (map tag_name s.plan.shown.names.items) s.plan.shown.tags.items planned.plan.tags ∙ length-map s.plan.shown.names.items tag_name

-- the plan is that of the netlist however far it runs
pub planned_still : (ls : Levels) (s : Stepped Plan) (r : Running) → r.net ≡ s.runner.net → IsPlanned ls s
    → IsPlanned ls (record { runner = r; plan = s.plan; fields = s.fields; room = s.room })
planned_still ls s r same planned = record {
  plan = subst (λ (q : Net). IsPlan ls q s.plan) (sym same) planned.plan;
  fields = planned.fields ∙ ap (fields_of ls) (sym same);
  sized = planned.sized;
  room = planned.room;
}

-- a step on a line more
module _ (ls : Levels) (n : Net) (s : Stepped Plan) (lines : List (List Given)) (line : List Given) (r : Running) (at : IsAfter ls n lines s) (same : r.net ≡ s.runner.net)
    (next : ShowsNext s.runner (numbers_of ls s.runner.net line) r) where
  pub after_more : IsAfter ls n (lines ++ line ∷ []) (record { runner = r; plan = s.plan; fields = s.fields; room = s.room })
  after_more = after_line (numbers_of ls) (IsPlanned ls) n s lines line r at same next (planned_still ls s r same at.planned)

  pub row_more : (cycle : ℕ) (old now values tags : List ℕ)
      → ((c : Option Valuation) → Shows r c → values ≡ seen_at r.net (seen r.net c) s.plan.shown.values.items)
      → ((c : Option Valuation) → Shows r c → tags ≡ seen_at r.net (seen r.net c) s.plan.shown.tags.items)
      → now ≡ old ++ row_text cycle (shown_of ls s.plan.shown.names.items values tags) → HasRowMore ls n (lines ++ line ∷ []) cycle old now
  row_more cycle old now values tags vs ts is run v h =
      let p = line_split n (numbers_of ls n) lines line run v h in
      let after = cycle_shown (numbers_of ls) (IsPlanned ls) n s lines line r at same next run v p.0 p.1 in
      let net : r.net ≡ n = same ∙ at.net in
      let xs = shown_registers ls n in
      let plan : IsPlan ls n s.plan = subst (λ (q : Net). IsPlan ls q s.plan) at.net at.planned.plan in
      let v_right = vs (Some v) after ∙ seen_values n r.net v value_name s.plan.shown.names.items xs s.plan.shown.values.items
      s.plan.shown.values.items net refl plan.names plan.values in
      let t_right = ts (Some v) after ∙ seen_values n r.net v tag_name s.plan.shown.names.items xs s.plan.shown.tags.items s.plan.shown.tags.items net refl plan.names plan.tags in
      is ∙ ap (λ (text : List ℕ). old ++ text) (row_is ls cycle (observed n v) xs s.plan.shown.names.items values tags plan.names v_right t_right)
