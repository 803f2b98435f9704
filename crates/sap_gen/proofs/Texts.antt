-- The text of the generated run, from what was run over a lattice of its names and pairs.
use Rattle.sap_lemmas.proofs.Common.{◌≡◌, ℕ, ◌≤◌, List, [], ◌∷◌, ◌++◌, sym, ap, ap₂, ◌∙◌, append_assoc, Result, Ok, Err, OnOk, codes, decimal}
use Rattle.sap_lattice.specs.Prelude.{IsLatticeOf, Levels, diamond, level_names, level_pairs}
use Rattle.sap_tree.specs.Syntax.{DesignTree}
use Rattle.sap_meaning.specs.Prelude.{run_from, Program, first, Store}
use Rattle.sap_resolved.specs.Fill.{program_of}
use Rattle.sap_interface.specs.Designs.{named_of}
use Rattle.sap_sim.specs.Labelled.LabelledRows.{labelled_row}
use Rattle.sap_gen.specs.Design.{design_of_counts, generated_design, register_count, state_count}
use Rattle.sap_gen.specs.Running.{last_store}
use Rattle.sap_gen.specs.Stream.{cycle_count, generated_stream}
use Rattle.sap_gen.specs.Text.{generated_run, generated_text, refusal_count, summary, text_over}
use Rattle.sap_gen.proofs.Alike.{text_same}
use Rattle.sap_gen.proofs.Cycles.{last_row}
use Rattle.sap_gen.proofs.Diamonds.{same_level_names, same_order}

-- the counts, one after another

joined : (out a b c d e f g h i j k : List ℕ)
    → out ++ a ++ (b ++ c) ++ (d ++ e) ++ (f ++ g) ++ (h ++ i) ++ (j ++ k) ≡ out ++ (a ++ b ++ c ++ d ++ e ++ f ++ g ++ h ++ i ++ j ++ k)
joined out a b c d e f g h i j k = simp append_assoc

pub summary_written : {E : Type 0} (r : Result (Unit {0}) E) (n number registers states cycles refusals : ℕ) (out a b c d e new : List ℕ)
    → number ≡ n → registers ≡ register_count n → states ≡ state_count n → cycles ≡ cycle_count n
    → a ≡ out ++ codes "gen " → b ≡ a ++ (decimal number ++ codes ": ") → c ≡ b ++ (decimal registers ++ codes " registers, ") → d ≡ c ++ (decimal states ++ codes " states, ")
    → e ≡ d ++ (decimal cycles ++ codes " cycles, ") → OnOk r (new ≡ e ++ (decimal refusals ++ (codes " refusals" ++ 10 ∷ []))) → OnOk r (new ≡ out ++ summary n refusals)
summary_written (Err f) n number registers states cycles refusals out a b c d e new ns rs ss cs p q s t u v = tt
summary_written (Ok x) n number registers states cycles refusals out a b c d e new ns rs ss cs p q s t u v =
    v
    ∙ ap (λ (text : List ℕ). text ++ (decimal refusals ++ (codes " refusals" ++ 10 ∷ []))) (u
    ∙ ap₂ (λ (text : List ℕ) (k : ℕ). text ++ (decimal k ++ codes " cycles, ")) (t
    ∙ ap₂ (λ (text : List ℕ) (k : ℕ). text ++ (decimal k ++ codes " states, ")) (s
    ∙ ap₂ (λ (text : List ℕ) (k : ℕ). text ++ (decimal k ++ codes " registers, ")) (q
    ∙ ap₂ (λ (text : List ℕ) (k : ℕ). text ++ (decimal k ++ codes ": ")) p ns) rs) ss) cs)
    ∙ joined out (codes "gen ") (decimal n) (codes ": ") (decimal (register_count n)) (codes " registers, ") (decimal (state_count n))
    (codes " states, ") (decimal (cycle_count n)) (codes " cycles, ")
    (decimal refusals) (codes " refusals" ++ 10 ∷ [])
    ∙ ap (λ (text : List ℕ). out ++ text)
    (sym (append_assoc
    (codes "gen " ++ decimal n ++ codes ": " ++ decimal (register_count n) ++ codes " registers, " ++ decimal (state_count n)
    ++ codes " states, " ++ decimal (cycle_count n) ++ codes " cycles, " ++ decimal refusals)
    (codes " refusals") (10 ∷ [])))

design_by_counts : (r t n : ℕ) → r ≡ register_count n → t ≡ state_count n → design_of_counts r t ≡ generated_design n
unfolding generated_design
design_by_counts r t n a b = ap₂ design_of_counts a b

over_diamond : (ls : Levels) → IsLatticeOf level_names level_pairs ls → (n : ℕ) → text_over ls n ≡ generated_text n
unfolding generated_text
over_diamond ls is n = text_same ls diamond (same_level_names ls is) (same_order ls is) n

-- what a run from the first state gives
text_is : (ls : Levels) (n : ℕ) → 1 ≤ n → (s : Store) → s ≡ last_store (first (program_of ls (generated_design n)).world) (generated_run ls n)
    → (refusals : ℕ) → refusals ≡ refusal_count (generated_run ls n)
    → summary n refusals ++ labelled_row ls (named_of ls (generated_design n)) (cycle_count n) s ≡ text_over ls n
text_is ls n some s end refusals count =
    ap₂ (λ (k : ℕ) (row : List ℕ). summary n k ++ row) count
    (ap (λ (t : Store). labelled_row ls (named_of ls (generated_design n)) (cycle_count n) t) end
    ∙ sym (last_row ls (named_of ls (generated_design n)) (program_of ls (generated_design n)) (first (program_of ls (generated_design n)).world) n some))

pub is_generated : (n r t : ℕ) → 1 ≤ n → r ≡ register_count n → t ≡ state_count n → (ls m : Levels) → IsLatticeOf level_names level_pairs ls
    → m ≡ ls → (d : DesignTree) → d ≡ design_of_counts r t
    → (p : Program) → p ≡ program_of m d → (from to : Store) → from ≡ first p.world → (refusals : ℕ) → refusals ≡ refusal_count (run_from p from (generated_stream n))
    → to ≡ last_store from (run_from p from (generated_stream n)) → (text : List ℕ)
    → text ≡ summary n refusals ++ labelled_row m (named_of m d) (cycle_count n) to → text ≡ generated_text n
is_generated n r t some registers states ls m is same d tree p program from to start refusals count end text shown =
    let e : d ≡ generated_design n = tree ∙ design_by_counts r t n registers states in
    let q : p ≡ program_of ls (generated_design n) = program ∙ ap₂ program_of same e in
    let f : from ≡ first (program_of ls (generated_design n)).world = start ∙ ap (λ (p : Program). first p.world) q in
    let k : refusals ≡ refusal_count (generated_run ls n) = count ∙ ap₂ (λ (p : Program) (s : Store). refusal_count (run_from p s (generated_stream n))) q f in
    let s : to ≡ last_store (first (program_of ls (generated_design n)).world) (generated_run ls n) =
    end ∙ ap₂ (λ (p : Program) (s : Store). last_store s (run_from p s (generated_stream n))) q f in
    shown
    ∙ ap₂ (λ (l : Levels) (d : DesignTree). summary n refusals ++ labelled_row l (named_of l d) (cycle_count n) to) same e
    ∙ text_is ls n some to s refusals k
    ∙ over_diamond ls is n
