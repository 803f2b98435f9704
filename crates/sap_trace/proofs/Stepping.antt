-- A netlist that is stepped on line after line, and the lines of its trace.
use Rattle.std.proofs.Common.{◌≡◌, ℕ, ◌<◌, List, [], ◌∷◌, ◌++◌, Option, Some, length, map, refl, sym, ap, ◌∙◌, subst}
use Rattle.sap_stim.proofs.FitsLemmas.{line_count}
use Rattle.sap_tree.specs.Syntax.{DesignTree}
use Rattle.sap_lattice.specs.Prelude.{Levels, order_of, Codes, Laws}
use Rattle.sap_maps.specs.Maps.{Valuation}
use Rattle.sap_meaning.specs.Prelude.{Store, Tagged, cycle, program_sites, refused_sites, Sublist}
use Rattle.sap_check.specs.Sites.{sites_of}
use Rattle.sap_net.specs.Prelude.{Net, SomeRun, InputsFit, IsRun, observed}
use Rattle.sap_cycle.specs.Running.{Running, Shows, ShowsNext, seen}
use Rattle.sap_interface.specs.Designs.{StandsForDesign}
use Rattle.sap_resolved.specs.Fill.{program_of}
use Rattle.sap_stim.specs.declared.field.Field.{Field}
use Rattle.sap_stim.specs.Fits.{LineFits, StimulusFits}
use Rattle.sap_sim.specs.Prelude.{design_fields, read_for, Stepped}
use Rattle.sap_sim.proofs.labelled.Designs.{fit_stream}
use Rattle.sap_sim.proofs.Stepped.{line_split, told_begins, told_goes_on, told_part, cycle_shown, after_line}
use Rattle.sap_secure.specs.CheckSites.Numbering.{OneNumbering}
use Rattle.sap_trace.specs.declared.wires.Wires.{Wires}
use Rattle.sap_trace.specs.Given.{given}
use Rattle.sap_trace.specs.Lines.{labelled_trace}
use Rattle.sap_trace.specs.Seen.{AreWires, cycle_lines, lines_from}
use Rattle.sap_trace.specs.Stepping.{IsPlanned, IsAfter, HasLinesMore, AreLines, LinesAddUp}
use Rattle.sap_trace.specs.TraceOf.{IsTraceOf, Trace}
use Rattle.sap_trace.proofs.Designs.{inputs_fit, trace_is}

module _ (ls : Levels) (d : DesignTree) (n : Net) where
  module _ (stands : StandsForDesign ls d n) (laws : Laws (order_of ls)) (fit : StimulusFits) (codes : Codes (order_of ls)) (some : 0 < length ls.names) (one : OneNumbering ls d)
      (in_order : (inputs : List Tagged) (s : Store)
      → Sublist (refused_sites (cycle (program_of ls d) inputs s).refused) (program_sites (program_of ls d))) (runs : SomeRun n) where
    whole_run : (bytes : List ℕ) → (vs : List Valuation) × IsRun n (map (given ls) (read_for ls d bytes).stream) vs
    whole_run bytes = runs (map (given ls) (read_for ls d bytes).stream) (inputs_fit ls d n stands laws fit bytes)

    whole_lines : (bytes : List ℕ) (vs : List Valuation) → IsRun n (map (given ls) (read_for ls d bytes).stream) vs
        → lines_from ls d 1 (map (observed n) vs) ≡ labelled_trace ls d (read_for ls d bytes).stream
    whole_lines bytes vs run = trace_is ls d n stands laws fit bytes codes some one in_order vs run

    lines_whole : (bytes text : List ℕ) → AreLines ls d n (read_for ls d bytes).stream text → IsTraceOf ls d bytes (record { text = text; fault = (read_for ls d bytes).fault })
    lines_whole bytes text are =
        let w = whole_run bytes in
        record { fault = refl; text = are w.0 w.1 ∙ whole_lines bytes w.0 w.1 }

    lines_part : (bytes text : List ℕ) (lines more : List (List Tagged)) (trace : Trace) → (read_for ls d bytes).stream ≡ lines ++ more
        → AreLines ls d n lines text → IsTraceOf ls d bytes trace
        → (rest : List ℕ) × (trace.text ≡ text ++ rest)
    lines_part bytes text lines more trace is begun of =
        let w = whole_run bytes in
        let p = told_part n (given ls) (cycle_lines ls d) lines more text w.0 (subst (λ (stream : List (List Tagged)). IsRun n (map (given ls) stream) w.0) is w.1) begun in
        (p.0, of.text ∙ sym (whole_lines bytes w.0 w.1) ∙ p.1)

    pub add_up : LinesAddUp ls d n
    add_up = record {
      begins = told_begins n (given ls) (cycle_lines ls d);
      goes_on = told_goes_on n (given ls) (cycle_lines ls d);
      all = λ bytes run is. sym (whole_lines bytes run is);
      whole = lines_whole;
      part = lines_part;
    }

-- a step on a line more
module _ (ls : Levels) (d : DesignTree) (n : Net) (s : Stepped Wires) (lines : List (List Tagged)) (line : List Tagged) (r : Running)
    (at : IsAfter ls d n lines s) (same : r.net ≡ s.runner.net)
    (next : ShowsNext s.runner (given ls line) r) where
  planned_still : IsPlanned ls d (record { runner = r; plan = s.plan; fields = s.fields; room = s.room })
  planned_still = record {
    stands = subst (λ (q : Net). StandsForDesign ls d q) (sym same) at.planned.stands;
    wires = subst (λ (q : Net). AreWires q (length (sites_of d)) s.plan) (sym same) at.planned.wires;
    fields = at.planned.fields;
    sized = at.planned.sized;
    room = at.planned.room;
  }

  pub after_more : IsAfter ls d n (lines ++ line ∷ []) (record { runner = r; plan = s.plan; fields = s.fields; room = s.room })
  after_more = after_line (λ q. given ls) (IsPlanned ls d) n s lines line r at same next planned_still

  pub lines_more : (cycle : ℕ) (old now : List ℕ)
      → ((c : Option Valuation) → Shows r c → now ≡ old ++ cycle_lines ls d cycle (seen r.net c)) → HasLinesMore ls d n (lines ++ line ∷ []) cycle old now
  lines_more cycle old now is run v h =
      let p = line_split n (given ls) lines line run v h in
      is (Some v) (cycle_shown (λ q. given ls) (IsPlanned ls d) n s lines line r at same next run v p.0 p.1)
      ∙ ap (λ (q : Net). old ++ cycle_lines ls d cycle (observed q v)) (same ∙ at.net)

-- the numbers of a line that fits
module _ (ls : Levels) (d : DesignTree) (s : Stepped Wires) (line : List Tagged) (planned : IsPlanned ls d s) (fits : LineFits ls s.fields line) where
  fits_design : LineFits ls (design_fields d) line
  fits_design = subst (λ (fs : List Field). LineFits ls fs line) planned.fields fits

  pub inputs_right : InputsFit s.runner.net.inputs (given ls line)
  inputs_right = (planned.stands.takes (line ∷ []) (fit_stream ls d (line ∷ []) (fits_design, tt))).0

  pub fields_count : length line ≡ length s.fields
  fields_count = line_count ls s.fields line fits
