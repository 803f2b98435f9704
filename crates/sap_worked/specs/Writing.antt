-- Writes to memories.
use Rattle.std.specs.Prelude.{◌≡◌, ℕ, List, [], ◌∷◌}
use Rattle.sap_maps.specs.Term.{read}
use Rattle.sap_meaning.specs.Program.{Entity, write, lone, command_then, Program}
use Rattle.sap_meaning.specs.Store.{start}
use Rattle.sap_meaning.specs.Cycle.{Tagged}
use Rattle.sap_meaning.specs.Examples.{four_levels, an_input, a_memory, held_memory, held_state, at_level, refused_at, program_of, loop}
use Rattle.sap_worked.specs.Rows.{low, left, right, high, Look, row, rows}

-- The text `input i : 1; input a : 8;`, the memory k, and `state S enforced low { k[i] := a; goto S; }`, with the given
-- check sites.
abbrev pub written : (memory : Entity) → (site goes : ℕ) → Program
written k site goes = program_of four_levels (an_input 1 ∷ an_input 8 ∷ k ∷ held_state 0 3 low ∷ [])
    (0 ∷ 0 ∷ 0 ∷ 0 ∷ 1 ∷ [])
    (loop 3 goes (λ b. command_then (lone (write site 2 (read 0) (read 1))) b))

-- The design with `mem k : 8[2] enforced left;`, in which the write is a check site.
abbrev pub written_enforced : Program
written_enforced = written (held_memory 8 2 left) 1 2

-- The design with `mem k : 8[2] dynamic;`, in which the write is no check site.
abbrev pub written_dynamic : Program
written_dynamic = written (a_memory 8 2) 0 1

-- What is looked at: both cells of memory k.
abbrev pub cells_of_k : Look
cells_of_k = record { values = start 2 0 ∷ start 2 1 ∷ []; states = []; parents = [] }

-- The inputs of the example: an index and a number.
abbrev pub writes : (i a : Tagged) → List Tagged
writes i a = i ∷ a ∷ []

-- Low join low join left ≤ left, and low join left join low ≤ left: both stand, each at its cell, and levels stay.
abbrev pub EnforcedWrite : Type 0
EnforcedWrite = rows written_enforced cells_of_k (writes (at_level low 1) (at_level left 5)
    ∷ writes (at_level left 0) (at_level low 9) ∷ [])
    ≡ row (at_level left 0 ∷ at_level left 5 ∷ []) [] [] []
    ∷ row (at_level left 9 ∷ at_level left 5 ∷ []) [] [] []
    ∷ []

-- The index's level right isn't at or below left. It belongs to the guard: refused at low join right join left.
abbrev pub RefusedByIndex : Type 0
RefusedByIndex = rows written_enforced cells_of_k (writes (at_level low 1) (at_level left 5)
    ∷ writes (at_level right 1) (at_level low 6) ∷ [])
    ≡ row (at_level left 0 ∷ at_level left 5 ∷ []) [] [] []
    ∷ row (at_level left 0 ∷ at_level left 5 ∷ []) [] [] (refused_at 1 high ∷ [])
    ∷ []

-- The value's level right isn't at or below left. It doesn't belong to the guard: refused at low join low join left.
abbrev pub RefusedByValue : Type 0
RefusedByValue = rows written_enforced cells_of_k (writes (at_level low 1) (at_level left 5)
    ∷ writes (at_level low 1) (at_level right 6) ∷ [])
    ≡ row (at_level left 0 ∷ at_level left 5 ∷ []) [] [] []
    ∷ row (at_level left 0 ∷ at_level left 5 ∷ []) [] [] (refused_at 1 left ∷ [])
    ∷ []

-- The one level of all cells becomes its join with those of context, index and value: left join right, and never falls.
abbrev pub DynamicWrite : Type 0
DynamicWrite = rows written_dynamic cells_of_k (writes (at_level left 1) (at_level low 5)
    ∷ writes (at_level low 1) (at_level right 6)
    ∷ writes (at_level low 0) (at_level low 9) ∷ [])
    ≡ row (at_level left 0 ∷ at_level left 5 ∷ []) [] [] []
    ∷ row (at_level high 0 ∷ at_level high 6 ∷ []) [] [] []
    ∷ row (at_level high 9 ∷ at_level high 6 ∷ []) [] [] []
    ∷ []
