-- Handlers of refused transfers, and several refusals in one cycle.
use Rattle.std.specs.Prelude.{◌≡◌, [], ◌∷◌}
use Rattle.sap_maps.specs.Term.{constant, read}
use Rattle.sap_meaning.specs.Program.{assign, go_to, fall_to_child, lone, try, if_else, end_block, command_then, state_node, no_node, and_node, Program}
use Rattle.sap_meaning.specs.Store.{own}
use Rattle.sap_meaning.specs.Examples.{four_levels, an_input, a_register, held_register, a_state, held_state, at_level, refused_at, program_of, loop}
use Rattle.sap_worked.specs.Rows.{low, left, right, high, state_under, put, goes, Look, row, rows}

-- The text `input a : 1; reg x : 8 dynamic; reg y : 8 enforced left;
-- state P enforced low {
--   if (a) { fall otherwise { x := 5; y := 6; goto P; } } else { goto P; }
--   state C enforced right { goto C; }
-- }`.
abbrev pub fall_handled : Program
fall_handled = program_of four_levels (an_input 1 ∷ a_register 8 ∷ held_register 8 left 0
    ∷ held_state 0 4 low ∷ held_state 0 4 right ∷ []) (0 ∷ 0 ∷ 0 ∷ 1 ∷ 0 ∷ 1 ∷ [])
    (and_node (state_node 3 (command_then (if_else [] (read 0)
    (command_then (try (fall_to_child 1 []) [] (command_then (put 0 1 5) (command_then (put 2 2 6) (goes 3 3))))
    end_block) (goes 4 3)) end_block)
    (and_node (state_node 4 (goes 5 4) no_node) no_node)) no_node)

-- What is looked at: registers x and y.
abbrev pub at_x_and_y : Look
at_x_and_y = record { values = own 1 ∷ own 2 ∷ []; states = []; parents = [] }

-- In left the fall is refused, since left isn't at or below C's level right, at left join right. In this context, high,
-- the handler runs: x := 5 gives x high; y, of level left, is refused at high join left, and goto P at high join low.
abbrev pub FallHandler : Type 0
FallHandler = rows fall_handled at_x_and_y ((at_level left 1 ∷ []) ∷ [])
    ≡ row (at_level high 5 ∷ at_level left 0 ∷ []) [] []
    (refused_at 1 high ∷ refused_at 2 high ∷ refused_at 3 high ∷ []) ∷ []

-- In low the fall enters C, and the handler doesn't run. Its x hangs on the fall, and is raised by C's level right.
abbrev pub HandlerRaises : Type 0
HandlerRaises = rows fall_handled at_x_and_y ((at_level low 1 ∷ []) ∷ [])
    ≡ row (at_level right 0 ∷ at_level left 0 ∷ []) [] [] [] ∷ []

-- The text `input a : 1; reg x : 8 dynamic; reg y : 8 enforced right;
-- state P dynamic { if (a) { goto T otherwise { x := 5; y := 6; goto P; } } else { goto P; } }
-- state T enforced left under left { goto T; }`.
abbrev pub from_dynamic : Program
from_dynamic = program_of four_levels (an_input 1 ∷ a_register 8 ∷ held_register 8 right 0 ∷ a_state 0 3
    ∷ state_under 1 4 left left ∷ []) (0 ∷ 0 ∷ 0 ∷ 0 ∷ 0 ∷ 2 ∷ [])
    (and_node (state_node 3 (command_then (if_else [] (read 0)
    (command_then (try (go_to 1 4) [] (command_then (put 0 1 5) (command_then (put 2 2 6) (goes 0 3))))
    end_block) (goes 0 3)) end_block) no_node)
    (and_node (state_node 4 (goes 3 4) no_node) no_node))

-- The design of `from_dynamic` with `state P enforced low { .. }`, so that each `goto` in it is a check site.
abbrev pub from_enforced : Program
from_enforced = program_of four_levels (an_input 1 ∷ a_register 8 ∷ held_register 8 right 0
    ∷ held_state 0 3 low ∷ state_under 1 4 left left ∷ []) (0 ∷ 0 ∷ 0 ∷ 0 ∷ 0 ∷ 2 ∷ [])
    (and_node (state_node 3 (command_then (if_else [] (read 0)
    (command_then (try (go_to 1 4) [] (command_then (put 0 1 5) (command_then (put 2 2 6) (goes 3 3))))
    end_block) (goes 4 3)) end_block) no_node)
    (and_node (state_node 4 (goes 5 4) no_node) no_node))

-- What is looked at: x and y, the levels of P and T, and which of these is current.
abbrev pub at_p_and_t : Look
at_p_and_t = record { values = own 1 ∷ own 2 ∷ []; states = 3 ∷ 4 ∷ []; parents = 5 ∷ [] }

-- In right the goto is refused, since right isn't at or below T's level left, at right join T's authority left. In this
-- context, high, the handler runs: x and P get high, and y, of level right, is refused at high join right.
abbrev pub GotoHandler : Type 0
GotoHandler = rows from_dynamic at_p_and_t ((at_level right 1 ∷ []) ∷ [])
    ≡ row (at_level high 5 ∷ at_level right 0 ∷ []) (high ∷ left ∷ []) (0 ∷ [])
    (refused_at 1 high ∷ refused_at 2 high ∷ []) ∷ []

-- In low the goto enters T. The guard, T's authority left, raises P and the handler's x.
abbrev pub GotoHandlerRaises : Type 0
GotoHandlerRaises = rows from_dynamic at_p_and_t ((at_level low 1 ∷ []) ∷ [])
    ≡ row (at_level left 0 ∷ at_level right 0 ∷ []) (left ∷ left ∷ []) (1 ∷ []) [] ∷ []

-- In low from an enforced state: low join T's authority left isn't at or below P's level low. In the handler's context,
-- left, x gets left, y is refused at left join right, and goto P at left join low.
abbrev pub GotoHandlerOfEnforced : Type 0
GotoHandlerOfEnforced = rows from_enforced at_p_and_t ((at_level low 1 ∷ []) ∷ [])
    ≡ row (at_level left 5 ∷ at_level right 0 ∷ []) (low ∷ left ∷ []) (0 ∷ [])
    (refused_at 1 left ∷ refused_at 2 high ∷ refused_at 3 left ∷ []) ∷ []

-- The text `input a : 8; reg y : 8 enforced left = 1; reg z : 8 enforced right = 2; reg u : 8 enforced high = 3; reg v
-- : 8 enforced low = 4; state S enforced low { y := a otherwise { z := 8 otherwise { u := 9; } } v := a; goto S; }`.
abbrev pub chained : Program
chained = program_of four_levels
    (an_input 8 ∷ held_register 8 left 1 ∷ held_register 8 right 2 ∷ held_register 8 high 3
    ∷ held_register 8 low 4 ∷ held_state 0 5 low ∷ [])
    (0 ∷ 0 ∷ 0 ∷ 0 ∷ 0 ∷ 0 ∷ 1 ∷ [])
    (loop 5 5 (λ b. command_then (try (assign 1 1 (read 0)) []
    (command_then (try (assign 2 2 (constant 8 8)) [] (command_then (put 3 3 9) end_block)) end_block))
    (command_then (lone (assign 4 4 (read 0))) b)))

-- What is looked at: four registers.
abbrev pub four_registers : Look
four_registers = record { values = own 1 ∷ own 2 ∷ own 3 ∷ own 4 ∷ []; states = []; parents = [] }

-- Register y is refused at low join left, and in left z at left join right; in high u is written. After the handlers,
-- in low, v is refused at low join low. The sites rise; their levels need not.
abbrev pub RisingRefusals : Type 0
RisingRefusals = rows chained four_registers ((at_level right 5 ∷ []) ∷ [])
    ≡ row (at_level left 1 ∷ at_level right 2 ∷ at_level high 9 ∷ at_level low 4 ∷ []) [] []
    (refused_at 1 left ∷ refused_at 2 high ∷ refused_at 4 low ∷ []) ∷ []

-- Register y is written, so no handler runs; v is refused.
abbrev pub NoHandlerRuns : Type 0
NoHandlerRuns = rows chained four_registers ((at_level left 5 ∷ []) ∷ [])
    ≡ row (at_level left 5 ∷ at_level right 2 ∷ at_level high 3 ∷ at_level low 4 ∷ []) [] []
    (refused_at 4 low ∷ []) ∷ []
