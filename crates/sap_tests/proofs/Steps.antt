-- A runner that is stepped on a line more, and the lines of a stimulus.
use Rattle.std.proofs.Common.{◌≡◌, ℕ, ◌<◌, List, [], ◌∷◌, ◌++◌, length, length-append, get_or, replicate, sym, ap, ◌∙◌, subst, arith}
use Rattle.sap_tree.specs.Syntax.{DesignTree}
use Rattle.sap_lattice.specs.Levels.{Levels}
use Rattle.sap_meaning.specs.Prelude.{Tagged, World, InputsFit, StreamFits, labelled_run, Refusal}
use Rattle.sap_net.specs.Net.{Net}
use Rattle.sap_cycle.specs.Running.{Running, ShowsNext}
use Rattle.sap_resolved.specs.Fill.{program_of}
use Rattle.sap_resolved.specs.Worlds.{world_of}
use Rattle.sap_stream.specs.Spans.{Span, cycles_of}
use Rattle.sap_sim.specs.Labelled.RunOf.{read_for}
use Rattle.sap_stim.specs.declared.stimulus.Parsed.{Parsed}
use Rattle.sap_trace.specs.Given.{given}
use Rattle.sap_trace.specs.Shows.{IsSteppedOn, ShowsRefused, StepsShowRefused, last_refused}

module _ (ls : Levels) (d : DesignTree) (old new : Running) (line : List Tagged) (law : StepsShowRefused ls d old.net) (fits : InputsFit (world_of ls d) line)
    (net : new.net ≡ old.net) (next : ShowsNext old (given ls line) new) (at : (lines : List (List Tagged)) × IsSteppedOn ls d old.net lines old) where
  now : IsSteppedOn ls d old.net (at.0 ++ line ∷ []) new
  now = law.goes_on at.0 line old new at.1 fits net next

  pub stepped : (lines : List (List Tagged)) × IsSteppedOn ls d new.net lines new
  stepped = (at.0 ++ line ∷ [], subst (λ (n : Net). IsSteppedOn ls d n (at.0 ++ line ∷ []) new) (sym net) now)

  pub shown : (rs : List Refusal) × ShowsRefused ls d new rs
  shown =
      let some : 0 < length (at.0 ++ line ∷ []) = omega (arith, length-append at.0 (line ∷ [])) in
      (last_refused (labelled_run (program_of ls d) (at.0 ++ line ∷ [])), law.gives (at.0 ++ line ∷ []) new some now)

-- two lines, each for one cycle
module _ (w : World) where
  span_fits : (count : ℕ) (xs : List Tagged) (rest : List (List Tagged)) → count ≡ 1 → StreamFits w (replicate count xs ++ rest) → InputsFit w xs × StreamFits w rest
  span_fits count xs rest one fits = let h = subst (λ (k : ℕ). StreamFits w (replicate k xs ++ rest)) one fits in (h.0, h.1)

  pub lines_fit : (ss : List Span) (o p s t : Span) → length ss ≡ 2 → (get_or ss 0 o).count ≡ 1 → (get_or ss 1 p).count ≡ 1 → StreamFits w (cycles_of ss)
      → InputsFit w (get_or ss 0 s).inputs × InputsFit w (get_or ss 1 t).inputs
  lines_fit [] o p s t two one once fits = absurd (omega arith)
  lines_fit (a ∷ []) o p s t two one once fits = absurd (omega arith)
  lines_fit (a ∷ (b ∷ [])) o p s t two one once fits =
      let first = span_fits a.count a.inputs (cycles_of (b ∷ [])) one fits in
      let second = span_fits b.count b.inputs [] once first.1 in
      (first.0, second.0)
  lines_fit (a ∷ (b ∷ (c ∷ cs))) o p s t two one once fits = absurd (omega arith)

-- what is read of a stimulus fits
pub read_fits : (ls : Levels) (d : DesignTree) (n : Net) (bytes : List ℕ) (parsed : Parsed) (ss : List Span) → StepsShowRefused ls d n → parsed ≡ read_for ls d bytes
    → cycles_of ss ≡ parsed.stream → StreamFits (world_of ls d) (cycles_of ss)
read_fits ls d n bytes parsed ss law read spans =
    subst (StreamFits (world_of ls d)) (sym (spans ∙ ap (λ (p : Parsed). p.stream) read)) (law.reads bytes)
