-- The text of the generated run: a line with its counts, and the row of its last cycle.
use Rattle.std.specs.Prelude.{ℕ, ◌-◌, List, [], ◌∷◌, ◌++◌, length, sum_by, codes, Option, Some, None, slice_get}
use Rattle.std.specs.Fmt.{decimal}
use Rattle.sap_lattice.specs.Levels.{Levels}
use Rattle.sap_meaning.specs.Store.{After}
use Rattle.sap_meaning.specs.State.{labelled_run}
use Rattle.sap_resolved.specs.Fill.{program_of}
use Rattle.sap_interface.specs.StandsFor.{Named}
use Rattle.sap_interface.specs.Designs.{named_of}
use Rattle.sap_sim.specs.Labelled.LabelledRows.{labelled_row}
use Rattle.sap_lattice.specs.Diamond.{diamond}
use Rattle.sap_gen.specs.Design.{register_count, state_count, generated_design}
use Rattle.sap_gen.specs.Stream.{cycle_count, generated_stream}

-- The labelled run of the generated design over a lattice.
abbrev pub generated_run : Levels → (n : ℕ) → List After
generated_run ls n = labelled_run (program_of ls (generated_design n)) (generated_stream n)

-- How many check sites were refused in all cycles.
abbrev pub refusal_count : List After → ℕ
refusal_count run = sum_by (λ a. length a.refused) run

-- Gen N: R registers, T states, C cycles, K refusals.
abbrev pub summary : (n refusals : ℕ) → List ℕ
summary n refusals =
    codes "gen " ++ decimal n
    ++ codes ": " ++ decimal (register_count n)
    ++ codes " registers, " ++ decimal (state_count n)
    ++ codes " states, " ++ decimal (cycle_count n)
    ++ codes " cycles, " ++ decimal refusals
    ++ codes " refusals" ++ 10 ∷ []

-- The row of a cycle that a run has.
abbrev pub row_shown : Levels → Named → (cycle : ℕ) → Option After → List ℕ
row_shown ls d cycle None = []
row_shown ls d cycle (Some a) = labelled_row ls d cycle a.store

-- Cycles are counted from 1.
abbrev pub row_of_cycle : Levels → Named → (cycle : ℕ) → List After → List ℕ
row_of_cycle ls d cycle run = row_shown ls d cycle (slice_get run (cycle - 1))

-- Over a lattice.
abbrev pub text_over : Levels → (n : ℕ) → List ℕ
text_over ls n =
    let run = generated_run ls n in
    summary n (refusal_count run) ++ row_of_cycle ls (named_of ls (generated_design n)) (cycle_count n) run

-- What `gen` prints for a number.
unfoldable pub generated_text : (n : ℕ) → List ℕ
generated_text n = text_over diamond n
