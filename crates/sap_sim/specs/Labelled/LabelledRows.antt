-- The rows of a labelled run: in each cycle every register with its number and the name of its level.
use Rattle.std.specs.Prelude.{ℕ, ◌+◌, List, [], ◌∷◌, ◌++◌, length, Some, if◌then◌else◌}
use Rattle.sap_tree.specs.Syntax.{DesignTree}
use Rattle.sap_lattice.specs.Closure.{name_at}
use Rattle.sap_lattice.specs.Levels.{Levels, level_in}
use Rattle.sap_meaning.specs.Program.{Entity, kind_is_register}
use Rattle.sap_meaning.specs.Store.{Store, After, own, number, level}
use Rattle.sap_meaning.specs.Cycle.{Tagged}
use Rattle.sap_meaning.specs.State.{labelled_run}
use Rattle.sap_resolved.specs.Fill.{program_of}
use Rattle.sap_interface.specs.StandsFor.{Named, name, world}
use Rattle.sap_interface.specs.Designs.{named_of}
use Rattle.sap_stim.specs.Rows.{Shown, row_text}
use Rattle.sap_sim.specs.Told.{told_from}

-- The name of a level; a number that is none counts as level 0.
abbrev pub level_name : Levels → ℕ → List ℕ
level_name ls t = name_at ls.names (level_in (length ls.names) t)

-- The register of this number, and its level's code as its tag.
abbrev pub register_shown : Levels → Named → Store → (x : ℕ) → Shown
register_shown ls d s x =
    let t = level (world d) (own x) s in
    record { name = name d x; value = number (own x) s; level = Some (level_name ls t); tag = d.code t }

-- The registers among some entities, in the order of declaration; x is the number of the first entity.
abbrev pub registers_shown : Levels → Named → Store → (x : ℕ) → List Entity → List Shown
registers_shown ls d s x [] = []
registers_shown ls d s x (e ∷ es) =
    (if kind_is_register e.kind then register_shown ls d s x ∷ [] else []) ++ registers_shown ls d s (x + 1) es

-- The row of a cycle of the labelled meaning.
abbrev pub labelled_row : Levels → Named → (cycle : ℕ) → Store → List ℕ
labelled_row ls d cycle s = row_text cycle (registers_shown ls d s 0 (world d).entities)

-- The rows of a labelled run, from a cycle on.
abbrev pub rows_of_run : Levels → Named → (cycle : ℕ) → List After → List ℕ
rows_of_run ls d = told_from (λ cycle (a : After). labelled_row ls d cycle a.store)

-- The rows of a design's labelled run on a stream, its cycles counted from 1.
abbrev pub labelled_rows : Levels → DesignTree → List (List Tagged) → List ℕ
labelled_rows ls d stream = rows_of_run ls (named_of ls d) 1 (labelled_run (program_of ls d) stream)
