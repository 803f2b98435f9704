-- Small programs, and the steps that their cycles come to.
use Rattle.std.specs.Prelude.{◌≡◌, ℕ, List, [], ◌∷◌}
use Rattle.sap_maps.specs.Term.{constant, read}
use Rattle.sap_meaning.specs.Program.{assign, write, go_to, fall_to_child, Step, lone, try, if_else, end_block, command_then, state_node, no_node, and_node, Program}
use Rattle.sap_meaning.specs.Cycle.{Tagged}
use Rattle.sap_meaning.specs.State.{first}
use Rattle.sap_meaning.specs.Examples.{two_levels, an_input, a_memory, held_memory, held_register, held_state, low, high, program_of, loop}
use Rattle.sap_secure.specs.Once.Steps.{cycle_steps}
use Rattle.sap_secure.specs.Once.Once.{writes_to}

-- The steps of the first cycle.
abbrev pub first_steps : Program → List Tagged → List Step
first_steps p inputs = cycle_steps p inputs (first p.world)

-- The text `m[i] := n`.
abbrev pub put : (i n : ℕ) → Step
put i n = write 0 1 (constant 2 i) (constant 8 n)

-- The text `input a : 1; mem m : 8[4] dynamic; state S enforced low { if (a) { m[0] := 1; } else { m[1] := 2; } goto S;
-- }`.
abbrev pub one_of_two : Program
one_of_two = program_of two_levels (an_input 1 ∷ a_memory 8 4 ∷ held_state 0 2 0 ∷ []) (0 ∷ 0 ∷ 0 ∷ 1 ∷ [])
    (loop 2 1 (λ b. command_then (if_else [] (read 0) (command_then (lone (put 0 1)) end_block)
    (command_then (lone (put 1 2)) end_block)) b))

-- A cycle comes to the write of one branch.
abbrev pub OneBranch : Type 0
OneBranch = (first_steps one_of_two (low 1 ∷ []) ≡ put 0 1 ∷ go_to 1 2 ∷ [])
    × (first_steps one_of_two (low 0 ∷ []) ≡ put 1 2 ∷ go_to 1 2 ∷ [])

-- The text `input a : 1; mem m : 8[4] dynamic; state S enforced low { m[0] := 1; m[1] := 2; goto S; }` is not well
-- formed.
abbrev pub two_writes : Program
two_writes = program_of two_levels (an_input 1 ∷ a_memory 8 4 ∷ held_state 0 2 0 ∷ []) (0 ∷ 0 ∷ 0 ∷ 1 ∷ [])
    (loop 2 1 (λ b. command_then (lone (put 0 1)) (command_then (lone (put 1 2)) b)))

-- Two writes to one memory count as two.
abbrev pub WrittenTwice : Type 0
WrittenTwice = writes_to 1 (first_steps two_writes (low 0 ∷ [])) ≡ 2

-- The text `input a : 8; mem m : 8[4] enforced low; reg y : 8 enforced low = 7; state S enforced low { y := a otherwise
-- { m[0] := 1; } goto S; }`.
abbrev pub handled : Program
handled = program_of two_levels (an_input 8 ∷ held_memory 8 4 0 ∷ held_register 8 0 7 ∷ held_state 0 3 0
    ∷ []) (0 ∷ 0 ∷ 0 ∷ 0 ∷ 1 ∷ [])
    (loop 3 3 (λ b. command_then (try (assign 1 2 (read 0)) [] (command_then (lone (put 0 1)) end_block)) b))

-- The steps of a handler come after the step that is refused.
abbrev pub AfterRefusal : Type 0
AfterRefusal = (first_steps handled (high 5 ∷ []) ≡ assign 1 2 (read 0) ∷ put 0 1 ∷ go_to 3 3 ∷ [])
    × (first_steps handled (low 5 ∷ []) ≡ assign 1 2 (read 0) ∷ go_to 3 3 ∷ [])

-- The text `input a : 1; mem m : 8[4] dynamic; state P enforced low { if (a) { fall; } else { m[1] := 2; goto P; }
-- state C enforced low { m[0] := 1; goto C; } }`.
abbrev pub below : Program
below = program_of two_levels (an_input 1 ∷ a_memory 8 4 ∷ held_state 0 3 0 ∷ held_state 0 3 0 ∷ [])
    (0 ∷ 0 ∷ 1 ∷ 0 ∷ 1 ∷ [])
    (and_node (state_node 2 (command_then (if_else [] (read 0) (command_then (lone (fall_to_child 1 [])) end_block)
    (command_then (lone (put 1 2)) (command_then (lone (go_to 2 2)) end_block))) end_block)
    (and_node (state_node 3 (command_then (lone (put 0 1)) (command_then (lone (go_to 3 3)) end_block))
    no_node) no_node)) no_node)

-- The steps of a child's body come after the fall into it.
abbrev pub AfterFall : Type 0
AfterFall = (first_steps below (low 1 ∷ []) ≡ fall_to_child 1 [] ∷ put 0 1 ∷ go_to 3 3 ∷ [])
    × (first_steps below (low 0 ∷ []) ≡ put 1 2 ∷ go_to 2 2 ∷ [])
