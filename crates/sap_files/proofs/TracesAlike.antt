-- Two lattices that are the same give a design the same trace.
use Rattle.std.proofs.Common.{◌≡◌, ℕ, ◌+◌, List, [], ◌∷◌, ◌++◌, refl, ◌∙◌, ap}
use Rattle.sap_lattice.specs.Levels.{Levels}
use Rattle.sap_latfile.specs.OneLattice.{AreSame}
use Rattle.sap_tree.specs.Syntax.{DesignTree}
use Rattle.sap_meaning.specs.Prelude.{Tagged, Program, After, Refusal, labelled_run}
use Rattle.sap_resolved.specs.Fill.{program_of}
use Rattle.sap_stim.specs.declared.stimulus.Parsed.{Parsed}
use Rattle.sap_sim.specs.Labelled.RunOf.{read_for}
use Rattle.sap_trace.specs.TraceOf.{IsTraceOf, Trace}
use Rattle.sap_trace.specs.Lines.{labelled_trace, refusal_line, refusal_lines, trace_of_run}
use Rattle.sap_files.proofs.Alike.{read_in}
use Rattle.sap_files.proofs.Programs.{program_in}

module _ (l m : Levels) (same : AreSame l m) where
  refusal_in : (d : DesignTree) (cycle : ℕ) (r : Refusal) → refusal_line l d cycle r ≡ refusal_line m d cycle r
  refusal_in d cycle r = rw same.names refl

  refusals_in : (d : DesignTree) (cycle : ℕ) (rs : List Refusal) → refusal_lines l d cycle rs ≡ refusal_lines m d cycle rs
  refusals_in d cycle [] = refl
  refusals_in d cycle (r ∷ rs) =
      ap (λ (text : List ℕ). text ++ refusal_lines l d cycle rs) (refusal_in d cycle r)
      ∙ ap (λ (text : List ℕ). refusal_line m d cycle r ++ text) (refusals_in d cycle rs)

  cycles_in : (d : DesignTree) (cycle : ℕ) (rest : List After) → trace_of_run l d cycle rest ≡ trace_of_run m d cycle rest
  cycles_in d cycle [] = refl
  cycles_in d cycle (a ∷ rest) =
      ap (λ (text : List ℕ). text ++ trace_of_run l d (cycle + 1) rest) (refusals_in d cycle a.refused)
      ∙ ap (λ (text : List ℕ). refusal_lines m d cycle a.refused ++ text) (cycles_in d (cycle + 1) rest)

  trace_in : (d : DesignTree) (stream : List (List Tagged)) → labelled_trace l d stream ≡ labelled_trace m d stream
  trace_in d stream =
      ap (λ (p : Program). trace_of_run l d 1 (labelled_run p stream)) (program_in l m same d)
      ∙ cycles_in d 1 (labelled_run (program_of m d) stream)

  pub lines_in : (d : DesignTree) (bytes : List ℕ) (lines : Trace) → IsTraceOf l d bytes lines → IsTraceOf m d bytes lines
  lines_in d bytes lines is = record {
    fault = is.fault ∙ ap (λ (p : Parsed). p.fault) (read_in l m same d bytes);
    text =
        is.text
        ∙ ap (λ (p : Parsed). labelled_trace l d p.stream) (read_in l m same d bytes)
        ∙ trace_in d (read_for m d bytes).stream;
  }
