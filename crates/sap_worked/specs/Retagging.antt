-- What setTag does to cells and to states.
use Rattle.std.specs.Prelude.{◌≡◌, ℕ, List, [], ◌∷◌}
use Rattle.sap_maps.specs.Term.{constant, read}
use Rattle.sap_meaning.specs.Program.{fixed, at_place, write, retag, retag_cell, fall_to_child, lone, if_else, end_block, command_then, state_node, no_node, and_node, Program}
use Rattle.sap_meaning.specs.Store.{own, start}
use Rattle.sap_meaning.specs.Cycle.{Tagged}
use Rattle.sap_meaning.specs.Examples.{four_levels, an_input, a_register, held_register, held_state, at_level, refused_at, program_of, loop}
use Rattle.sap_worked.specs.Rows.{low, left, right, high, memory_under, state_under, put, goes, Look, row, rows}

-- The text `input c : 1; input j : 1; input n : 2; mem k : 8[2] enforced LEVEL under AUTHORITY;
-- state S enforced low { if (c) { k[j] := 7; } else { setTag(k[j], level(n)); } goto S; }`.
abbrev pub retagged_cells : (level authority : ℕ) → Program
retagged_cells t u = program_of four_levels (an_input 1 ∷ an_input 1 ∷ an_input 2 ∷ memory_under 8 2 t u
    ∷ held_state 0 4 low ∷ []) (0 ∷ 0 ∷ 0 ∷ 0 ∷ 0 ∷ 1 ∷ [])
    (loop 4 3 (λ b. command_then (if_else [] (read 0)
    (command_then (lone (write 1 3 (read 1) (constant 8 7))) end_block)
    (command_then (lone (retag_cell 2 3 (read 1) (at_place (read 2)))) end_block)) b))

-- The two cells of k.
abbrev pub both_cells : Look
both_cells = record { values = start 3 0 ∷ start 3 1 ∷ []; states = []; parents = [] }

-- The inputs of a cycle that does `k[0] := 7`.
abbrev pub writes_seven : List Tagged
writes_seven = at_level low 1 ∷ at_level low 0 ∷ at_level low 0 ∷ []

-- The inputs of a cycle that does `setTag(k[j], level(n))`.
abbrev pub retags : (j n : Tagged) → List Tagged
retags j n = at_level low 0 ∷ j ∷ n ∷ []

-- The write stands, since low ≤ left. setTag: what n tells is left, at or below the authority left, which is at or
-- below the place 3, high; and the old level left ≤ high, so 7 stays. The other cell keeps all.
abbrev pub CellRaised : Type 0
CellRaised = rows (retagged_cells left left) both_cells (writes_seven ∷ retags (at_level low 0) (at_level left 3) ∷ [])
    ≡ row (at_level left 7 ∷ at_level left 0 ∷ []) [] [] []
    ∷ row (at_level high 7 ∷ at_level left 0 ∷ []) [] [] []
    ∷ []

-- Raised to high as above, then to the place 1: left ≤ left, but the old level high isn't at or below left, so 7 is
-- gone.
abbrev pub CellLowered : Type 0
CellLowered = rows (retagged_cells left left) both_cells
    (writes_seven ∷ retags (at_level low 0) (at_level low 3) ∷ retags (at_level low 0) (at_level low 1) ∷ [])
    ≡ row (at_level left 7 ∷ at_level left 0 ∷ []) [] [] []
    ∷ row (at_level high 7 ∷ at_level left 0 ∷ []) [] [] []
    ∷ row (at_level left 0 ∷ at_level left 0 ∷ []) [] [] []
    ∷ []

-- Under the authority low, to the place 2: low ≤ right, but the old level left isn't at or below right, so 7 is gone.
abbrev pub CellMovedAside : Type 0
CellMovedAside = rows (retagged_cells left low) both_cells
    (writes_seven ∷ retags (at_level low 0) (at_level low 2) ∷ [])
    ≡ row (at_level left 7 ∷ at_level left 0 ∷ []) [] [] []
    ∷ row (at_level right 0 ∷ at_level left 0 ∷ []) [] [] []
    ∷ []

-- Right isn't at or below the authority left: as what n tells, as the level of the index, as the context, which the
-- `if` joins with the level of c. The guard is the authority alone, so the refusals are at low join left, twice, and at
-- right join left.
abbrev pub CellRefusedByAuthority : Type 0
CellRefusedByAuthority = rows (retagged_cells left left) both_cells
    (writes_seven ∷ retags (at_level low 0) (at_level right 3)
    ∷ retags (at_level right 0) (at_level low 3) ∷ (at_level right 0 ∷ at_level low 0 ∷ at_level low 3 ∷ []) ∷ [])
    ≡ row (at_level left 7 ∷ at_level left 0 ∷ []) [] [] []
    ∷ row (at_level left 7 ∷ at_level left 0 ∷ []) [] [] (refused_at 2 left ∷ [])
    ∷ row (at_level left 7 ∷ at_level left 0 ∷ []) [] [] (refused_at 2 left ∷ [])
    ∷ row (at_level left 7 ∷ at_level left 0 ∷ []) [] [] (refused_at 2 high ∷ [])
    ∷ []

-- The authority left is at or below neither the place 2, right, nor the place 0, low. Refused at low join left.
abbrev pub CellRefusedByLevel : Type 0
CellRefusedByLevel = rows (retagged_cells left left) both_cells
    (writes_seven ∷ retags (at_level low 0) (at_level low 2) ∷ retags (at_level low 0) (at_level low 0) ∷ [])
    ≡ row (at_level left 7 ∷ at_level left 0 ∷ []) [] [] []
    ∷ row (at_level left 7 ∷ at_level left 0 ∷ []) [] [] (refused_at 2 left ∷ [])
    ∷ row (at_level left 7 ∷ at_level left 0 ∷ []) [] [] (refused_at 2 left ∷ [])
    ∷ []

-- The text `input c : 1; input n : 2; reg x : 8 dynamic; reg y : 8 enforced left;
-- state P enforced low { setTag(Q, level(n)); if (c) { goto Q; } else { goto P; } }
-- state Q enforced left under AUTHORITY { y := 1; x := 2; goto P; }`.
abbrev pub retagged_state : (authority : ℕ) → Program
retagged_state u = program_of four_levels
    (an_input 1 ∷ an_input 2 ∷ a_register 8 ∷ held_register 8 left 0 ∷ held_state 0 4 low ∷ state_under 1 5 left u ∷ [])
    (0 ∷ 0 ∷ 0 ∷ 0 ∷ 0 ∷ 0 ∷ 2 ∷ [])
    (and_node (state_node 4 (command_then (lone (retag 1 5 (at_place (read 1))))
    (command_then (if_else [] (read 0) (goes 2 5) (goes 3 4)) end_block)) no_node)
    (and_node (state_node 5 (command_then (put 4 3 1) (command_then (put 0 2 2) (goes 5 4))) no_node) no_node))

-- What is looked at: x and y, the level of Q, and which of P and Q is current.
abbrev pub into_q : Look
into_q = record { values = own 2 ∷ own 3 ∷ []; states = 5 ∷ []; parents = 6 ∷ [] }

-- The inputs of a cycle that does `setTag(Q, level(n))`, and then `goto Q` if c is 1.
abbrev pub asks : (c n : Tagged) → List Tagged
asks c n = c ∷ n ∷ []

-- Q is raised to high and entered. Its body runs in high, to which x is raised: y is refused at high join left, and
-- goto P at high join low, since high isn't at or below P's level low.
abbrev pub StateRaised : Type 0
StateRaised = rows (retagged_state low) into_q
    (asks (at_level low 1) (at_level low 3) ∷ asks (at_level low 0) (at_level low 0) ∷ [])
    ≡ row (at_level low 0 ∷ at_level left 0 ∷ []) (high ∷ []) (1 ∷ []) []
    ∷ row (at_level high 2 ∷ at_level left 0 ∷ []) (high ∷ []) (1 ∷ []) (refused_at 4 high ∷ refused_at 5 high ∷ [])
    ∷ []

-- Q is lowered to low and entered. Its body runs in low: y is written, and P is entered again.
abbrev pub StateLowered : Type 0
StateLowered = rows (retagged_state low) into_q
    (asks (at_level low 1) (at_level low 0) ∷ asks (at_level low 0) (at_level low 0) ∷ [])
    ≡ row (at_level low 0 ∷ at_level left 0 ∷ []) (low ∷ []) (1 ∷ []) []
    ∷ row (at_level low 2 ∷ at_level left 1 ∷ []) (low ∷ []) (0 ∷ []) []
    ∷ []

-- Q goes from left to right. Its body runs in right, to which x is raised: y is refused at right join left, goto P at
-- right join low.
abbrev pub StateMovedAside : Type 0
StateMovedAside = rows (retagged_state low) into_q
    (asks (at_level low 1) (at_level low 2) ∷ asks (at_level low 0) (at_level low 0) ∷ [])
    ≡ row (at_level low 0 ∷ at_level left 0 ∷ []) (right ∷ []) (1 ∷ []) []
    ∷ row (at_level right 2 ∷ at_level left 0 ∷ []) (right ∷ []) (1 ∷ []) (refused_at 4 high ∷ refused_at 5 right ∷ [])
    ∷ []

-- Under the authority left: what n tells is right; then right isn't above left; then left tells high, which stands;
-- then low isn't above left, and goto Q is refused, since low join Q's authority isn't at or below P's level low.
abbrev pub StateRefused : Type 0
StateRefused = rows (retagged_state left) into_q
    (asks (at_level low 0) (at_level right 3) ∷ asks (at_level low 0) (at_level low 2)
    ∷ asks (at_level low 0) (at_level left 3) ∷ asks (at_level low 1) (at_level low 0) ∷ [])
    ≡ row (at_level low 0 ∷ at_level left 0 ∷ []) (left ∷ []) (0 ∷ []) (refused_at 1 left ∷ [])
    ∷ row (at_level low 0 ∷ at_level left 0 ∷ []) (left ∷ []) (0 ∷ []) (refused_at 1 left ∷ [])
    ∷ row (at_level low 0 ∷ at_level left 0 ∷ []) (high ∷ []) (0 ∷ []) []
    ∷ row (at_level low 0 ∷ at_level left 0 ∷ []) (high ∷ []) (0 ∷ []) (refused_at 1 left ∷ refused_at 2 left ∷ [])
    ∷ []

-- The text `input a : 1; reg x : 8 dynamic;
-- state P enforced low { if (a) { fall; } else { goto Q; } state C enforced low { x := 1; goto C; } }
-- state Q enforced low { setTag(C, left); goto P; }`.
abbrev pub retagged_child : Program
retagged_child = program_of four_levels (an_input 1 ∷ a_register 8 ∷ held_state 0 3 low
    ∷ held_state 0 3 low ∷ held_state 1 4 low ∷ []) (0 ∷ 0 ∷ 1 ∷ 0 ∷ 0 ∷ 2 ∷ [])
    (and_node (state_node 2 (command_then (if_else [] (read 0)
    (command_then (lone (fall_to_child 1 [])) end_block) (goes 2 4)) end_block)
    (and_node (state_node 3 (command_then (put 0 1 1) (goes 3 3)) no_node) no_node))
    (and_node (state_node 4 (command_then (lone (retag 4 3 (fixed left))) (goes 5 2)) no_node) no_node))

-- What is looked at: x, the level of C, and which of P and Q is current.
abbrev pub into_c : Look
into_c = record { values = own 1 ∷ []; states = 3 ∷ []; parents = 5 ∷ [] }

-- A fall in left into C at low is refused, at left join low. By Q the level of C becomes left, and the same fall enters
-- it: left ≤ left, and x := 1 in left. A fall in right is refused still, at right join left, and x is raised by both.
abbrev pub RetaggedChild : Type 0
RetaggedChild = rows retagged_child into_c
    ((at_level left 1 ∷ []) ∷ (at_level low 0 ∷ []) ∷ (at_level low 0 ∷ []) ∷ (at_level left 1 ∷ [])
    ∷ (at_level right 1 ∷ []) ∷ [])
    ≡ row (at_level left 0 ∷ []) (low ∷ []) (0 ∷ []) (refused_at 1 left ∷ [])
    ∷ row (at_level left 0 ∷ []) (low ∷ []) (1 ∷ []) []
    ∷ row (at_level left 0 ∷ []) (left ∷ []) (0 ∷ []) []
    ∷ row (at_level left 1 ∷ []) (left ∷ []) (0 ∷ []) []
    ∷ row (at_level high 1 ∷ []) (left ∷ []) (0 ∷ []) (refused_at 1 high ∷ [])
    ∷ []
