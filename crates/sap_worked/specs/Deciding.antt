-- Commands with `then`, and `case`.
use Rattle.std.specs.Prelude.{◌≡◌, ℕ, Bool, List, [], ◌∷◌}
use Rattle.sap_maps.specs.Term.{read}
use Rattle.sap_meaning.specs.Program.{World, Step, Block, last_arm, and_arm, case_of, assign, lone, try, try_then, end_block, command_then, state_node, no_node, and_node, Program}
use Rattle.sap_meaning.specs.Store.{Store, After, own}
use Rattle.sap_meaning.specs.Checks.{Home}
use Rattle.sap_meaning.specs.Does.{within, does}
use Rattle.sap_meaning.specs.Examples.{four_levels, an_input, a_register, held_register, held_state, at_level, refused_at, program_of, loop}
use Rattle.sap_worked.specs.Rows.{low, left, right, high, put, goes, Look, row, rows}

-- The text `input a : 8; reg y : 8 enforced low; reg x : 8 dynamic;
-- state S enforced low { y := a then { x := 1; goto T; } otherwise { x := 2; goto S; } }
-- state T enforced low { x := 3; goto S; }`.
abbrev pub accepted_or_not : Program
accepted_or_not = program_of four_levels (an_input 8 ∷ held_register 8 low 0 ∷ a_register 8
    ∷ held_state 0 3 low ∷ held_state 1 4 low ∷ []) (0 ∷ 0 ∷ 0 ∷ 0 ∷ 0 ∷ 2 ∷ [])
    (and_node (state_node 3 (command_then (try_then (assign 1 1 (read 0)) []
    (command_then (put 0 2 1) (goes 2 4)) (command_then (put 0 2 2) (goes 3 3))) end_block) no_node)
    (and_node (state_node 4 (command_then (put 0 2 3) (goes 4 3)) no_node) no_node))

-- What is looked at: y and x, and which state is current.
abbrev pub at_y_and_x : Look
at_y_and_x = record { values = own 1 ∷ own 2 ∷ []; states = []; parents = 5 ∷ [] }

-- At high y is refused at low join low, and the second block runs. At low y is written, and the first block runs, up to
-- its goto.
abbrev pub AcceptedOrNot : Type 0
AcceptedOrNot = rows accepted_or_not at_y_and_x ((at_level high 5 ∷ []) ∷ (at_level low 5 ∷ [])
    ∷ (at_level low 5 ∷ []) ∷ [])
    ≡ row (at_level low 0 ∷ at_level low 2 ∷ []) [] (0 ∷ []) (refused_at 1 low ∷ [])
    ∷ row (at_level low 5 ∷ at_level low 1 ∷ []) [] (1 ∷ []) []
    ∷ row (at_level low 5 ∷ at_level low 3 ∷ []) [] (0 ∷ []) []
    ∷ []

-- The text `input a : 8; reg y : 8 enforced left = 1; reg x : 8 dynamic; reg z : 8 dynamic;
-- state S enforced low { y := a then { x := y; } otherwise { z := 6; } goto S; }`.
abbrev pub in_guard : Program
in_guard = program_of four_levels (an_input 8 ∷ held_register 8 left 1 ∷ a_register 8 ∷ a_register 8
    ∷ held_state 0 4 low ∷ []) (0 ∷ 0 ∷ 0 ∷ 0 ∷ 0 ∷ 1 ∷ [])
    (loop 4 2 (λ b. command_then (try_then (assign 1 1 (read 0)) []
    (command_then (lone (assign 0 2 (read 1))) end_block) (command_then (put 0 3 6) end_block)) b))

-- What is looked at: three registers.
abbrev pub three_registers : Look
three_registers = record { values = own 1 ∷ own 2 ∷ own 3 ∷ []; states = []; parents = [] }

-- In low y is written. Then x gets y's new number, in low join y's level left; z, which the other block assigns, is
-- raised by left.
abbrev pub AcceptedInGuard : Type 0
AcceptedInGuard = rows in_guard three_registers ((at_level low 9 ∷ []) ∷ [])
    ≡ row (at_level left 9 ∷ at_level left 9 ∷ at_level left 0 ∷ []) [] [] [] ∷ []

-- At right y is refused at low join left. z gets 6 there; x, which the first block assigns, is raised by left.
abbrev pub RefusedInGuard : Type 0
RefusedInGuard = rows in_guard three_registers ((at_level right 9 ∷ []) ∷ [])
    ≡ row (at_level left 1 ∷ at_level left 0 ∷ at_level left 6 ∷ []) [] [] (refused_at 1 left ∷ []) ∷ []

-- The text `input a : 8; reg y : 8 enforced low = 1; reg z : 8 enforced low = 2; reg x : 8 dynamic;
-- state S enforced low { y := a then { z := x; } otherwise { z := a; } goto S; }`.
abbrev pub sites_in_blocks : Program
sites_in_blocks = program_of four_levels (an_input 8 ∷ held_register 8 low 1 ∷ held_register 8 low 2
    ∷ a_register 8 ∷ held_state 0 4 low ∷ []) (0 ∷ 0 ∷ 0 ∷ 0 ∷ 0 ∷ 1 ∷ [])
    (loop 4 4 (λ b. command_then (try_then (assign 1 1 (read 0)) []
    (command_then (lone (assign 2 2 (read 3))) end_block) (command_then (lone (assign 3 2 (read 0))) end_block)) b))

-- What is looked at: two registers.
abbrev pub two_registers : Look
two_registers = record { values = own 1 ∷ own 2 ∷ []; states = []; parents = [] }

-- The refused command is told before what its block refuses.
abbrev pub RefusedBeforeBlock : Type 0
RefusedBeforeBlock = rows sites_in_blocks two_registers ((at_level high 5 ∷ []) ∷ [])
    ≡ row (at_level low 1 ∷ at_level low 2 ∷ []) [] [] (refused_at 1 low ∷ refused_at 3 low ∷ []) ∷ []

-- The text `input a : 2; reg x : 8 dynamic; state S enforced low { case (a) { 0, 2: { x := 7; } else { x := 9; } } goto
-- S; }`.
abbrev pub decoder : Program
decoder = program_of four_levels (an_input 2 ∷ a_register 8 ∷ held_state 0 2 low ∷ []) (0 ∷ 0 ∷ 0 ∷ 1 ∷ [])
    (loop 2 1 (λ b. command_then (case_of [] (read 0)
    (and_arm (0 ∷ 2 ∷ []) (command_then (put 0 1 7) end_block) (last_arm (command_then (put 0 1 9) end_block)))) b))

-- What is looked at: register x.
abbrev pub at_x : Look
at_x = record { values = own 1 ∷ []; states = []; parents = [] }

-- The number 2 is a constant of the arm; 1 is none, so the last block runs.
abbrev pub Decoded : Type 0
Decoded = rows decoder at_x ((at_level high 2 ∷ []) ∷ (at_level low 1 ∷ []) ∷ [])
    ≡ row (at_level high 7 ∷ []) [] [] [] ∷ row (at_level low 9 ∷ []) [] [] [] ∷ []

-- The text `input a : 2; reg x : 8 dynamic; reg z : 8 dynamic;
-- state S enforced low { case (a) { 1: { x := 1; } 3, 1: { z := 2; } else { z := 3; } } goto S; }`.
abbrev pub repeated : Program
repeated = program_of four_levels (an_input 2 ∷ a_register 8 ∷ a_register 8 ∷ held_state 0 3 low ∷ [])
    (0 ∷ 0 ∷ 0 ∷ 0 ∷ 1 ∷ [])
    (loop 3 1 (λ b. command_then (case_of [] (read 0)
    (and_arm (1 ∷ []) (command_then (put 0 1 1) end_block)
    (and_arm (3 ∷ 1 ∷ []) (command_then (put 0 2 2) end_block) (last_arm (command_then (put 0 2 3) end_block)))))
    b))

-- Of two arms with one constant the first counts. What another block assigns is raised by the level of the number.
abbrev pub FirstArm : Type 0
FirstArm = rows repeated two_registers ((at_level left 1 ∷ []) ∷ (at_level low 3 ∷ []) ∷ (at_level low 0 ∷ []) ∷ [])
    ≡ row (at_level left 1 ∷ at_level left 0 ∷ []) [] [] []
    ∷ row (at_level left 1 ∷ at_level low 2 ∷ []) [] [] []
    ∷ row (at_level left 1 ∷ at_level low 3 ∷ []) [] [] []
    ∷ []

-- A command without `then` does the same as with nothing in its first block.
abbrev pub NothingBehind : Type 0
NothingBehind = (w : World) (at : Home) (enter : ℕ → ℕ → Store
    → After) (k : Step) (hang : List Bool) (h : Block) (pc : ℕ) (s : Store)
    → does (within w at enter) (try k hang h) pc s ≡ does (within w at enter) (try_then k hang end_block h) pc s
