-- What goto and fall raise and lower.
use Rattle.std.specs.Prelude.{◌≡◌, [], ◌∷◌}
use Rattle.sap_maps.specs.Term.{constant, read}
use Rattle.sap_meaning.specs.Program.{write, fall_to_child, lone, if_else, end_block, command_then, state_node, no_node, and_node, Program}
use Rattle.sap_meaning.specs.Store.{own, start}
use Rattle.sap_meaning.specs.Examples.{four_levels, an_input, a_register, a_memory, a_state, held_state, at_level, refused_at, program_of}
use Rattle.sap_worked.specs.Rows.{low, left, right, high, state_under, put, goes, Look, row, rows}

-- The text `input c : 1; input a : 1; reg x : 8 dynamic;
-- state P enforced low {
--   if (c) { goto Q; } else { fall; }
--   state C dynamic { if (a) { goto D; } else { goto C; } }
--   state D dynamic { fall; state G dynamic { x := 2; goto G; } }
--   state E enforced right { goto E; }
-- }
-- state Q enforced low { goto P; }`.
abbrev pub lowers_below : Program
lowers_below = program_of four_levels
    (an_input 1 ∷ an_input 1 ∷ a_register 8 ∷ held_state 0 7 low ∷ a_state 0 4 ∷ a_state 1 6
    ∷ a_state 0 6 ∷ held_state 2 7 right ∷ held_state 1 8 low ∷ [])
    (0 ∷ 0 ∷ 0 ∷ 3 ∷ 0 ∷ 1 ∷ 0 ∷ 0 ∷ 0 ∷ 2 ∷ [])
    (and_node (state_node 3 (command_then (if_else [] (read 0) (goes 1 8)
    (command_then (lone (fall_to_child 2 [])) end_block)) end_block)
    (and_node (state_node 4 (command_then (if_else [] (read 1) (goes 0 5) (goes 0 4)) end_block) no_node)
    (and_node (state_node 5 (command_then (lone (fall_to_child 0 [])) end_block)
    (and_node (state_node 6 (command_then (put 0 2 2) (goes 0 6)) no_node) no_node))
    (and_node (state_node 7 (goes 3 7) no_node) no_node))))
    (and_node (state_node 8 (goes 4 3) no_node) no_node))

-- What is looked at: x, the levels of C, D, G and E, and the current children of the root and of P.
abbrev pub below_p : Look
below_p = record { values = own 2 ∷ []; states = 4 ∷ 5 ∷ 6 ∷ 7 ∷ []; parents = 9 ∷ 3 ∷ [] }

-- In cycle 1 the `if` in C raises C to left, and D gets its context left. In cycle 2 the fall of P raises x by the
-- level left of D, and the `goto` of G gives G left. In cycle 3 comes `goto Q`. In cycle 4 `goto P` takes C, D and G,
-- two groups down, to low, and P to its first child; E keeps right.
abbrev pub LowersBelow : Type 0
LowersBelow = rows lowers_below below_p
    ((at_level low 0 ∷ at_level left 1 ∷ []) ∷ (at_level low 0 ∷ at_level low 0 ∷ [])
    ∷ (at_level low 1 ∷ at_level low 0 ∷ []) ∷ (at_level low 0 ∷ at_level low 0 ∷ []) ∷ [])
    ≡ row (at_level low 0 ∷ []) (left ∷ left ∷ low ∷ right ∷ []) (0 ∷ 1 ∷ []) []
    ∷ row (at_level left 2 ∷ []) (left ∷ left ∷ left ∷ right ∷ []) (0 ∷ 1 ∷ []) []
    ∷ row (at_level left 2 ∷ []) (left ∷ left ∷ left ∷ right ∷ []) (1 ∷ 1 ∷ []) []
    ∷ row (at_level left 2 ∷ []) (low ∷ low ∷ low ∷ right ∷ []) (0 ∷ 0 ∷ []) []
    ∷ []

-- The text `input a : 1;
-- state S dynamic { if (a) { goto T; } else { goto S; } }
-- state T enforced left under left { goto T; }`.
abbrev pub to_enforced : Program
to_enforced = program_of four_levels (an_input 1 ∷ a_state 0 1 ∷ state_under 1 2 left left ∷ []) (0 ∷ 0 ∷ 0 ∷ 2 ∷ [])
    (and_node (state_node 1 (command_then (if_else [] (read 0) (goes 1 2) (goes 0 1)) end_block) no_node)
    (and_node (state_node 2 (goes 2 2) no_node) no_node))

-- The levels of S and T, and which is current.
abbrev pub at_s_and_t : Look
at_s_and_t = record { values = []; states = 1 ∷ 2 ∷ []; parents = 3 ∷ [] }

-- Low ≤ T's level left, and S isn't enforced: T is entered. The guard, T's authority left, raises S.
abbrev pub RaisedByTarget : Type 0
RaisedByTarget = rows to_enforced at_s_and_t ((at_level low 1 ∷ []) ∷ []) ≡ row [] (left ∷ left ∷ []) (1 ∷ []) [] ∷ []

-- The condition raises S to right, which isn't at or below T's level left: refused at right join left. The guard raises
-- S all the same, to right join left, and it stays current. Then its body runs in high, and the goto is refused in
-- high.
abbrev pub RaisedWhereRefused : Type 0
RaisedWhereRefused = rows to_enforced at_s_and_t ((at_level right 1 ∷ []) ∷ (at_level low 1 ∷ []) ∷ [])
    ≡ row [] (high ∷ left ∷ []) (0 ∷ []) (refused_at 1 high ∷ [])
    ∷ row [] (high ∷ left ∷ []) (0 ∷ []) (refused_at 1 high ∷ [])
    ∷ []

-- The text `input a : 1; reg x : 8 dynamic; mem m : 8[2] dynamic;
-- state P enforced low {
--   if (a) { fall; } else { goto P; }
--   state C enforced right { goto C; }
--   state D dynamic { x := 1; m[0] := 2; goto D; }
-- }`.
abbrev pub falls : Program
falls = program_of four_levels (an_input 1 ∷ a_register 8 ∷ a_memory 8 2 ∷ held_state 0 5 low
    ∷ held_state 0 4 right ∷ a_state 1 5 ∷ []) (0 ∷ 0 ∷ 0 ∷ 2 ∷ 0 ∷ 0 ∷ 1 ∷ [])
    (and_node (state_node 3 (command_then (if_else [] (read 0)
    (command_then (lone (fall_to_child 1 [])) end_block) (goes 2 3)) end_block)
    (and_node (state_node 4 (goes 3 4) no_node)
    (and_node (state_node 5 (command_then (put 0 1 1)
    (command_then (lone (write 0 2 (constant 1 0) (constant 8 2))) (goes 0 5))) no_node) no_node))) no_node)

-- What is looked at: x and a cell of m, the levels of C and D, and which of these is current. The fall touches x, m and
-- D, and the body of C none of them.
abbrev pub hanging : Look
hanging = record { values = own 1 ∷ start 2 0 ∷ []; states = 4 ∷ 5 ∷ []; parents = 3 ∷ [] }

-- Low ≤ C's level right: C is entered. Its level, the guard, raises x, m and D, of which C's body touches none.
abbrev pub FallRaises : Type 0
FallRaises = rows falls hanging ((at_level low 1 ∷ []) ∷ [])
    ≡ row (at_level right 0 ∷ at_level right 0 ∷ []) (right ∷ right ∷ []) (0 ∷ []) [] ∷ []

-- The condition raises x, m and D to left, which isn't at or below right: refused at left join right, to which the
-- guard raises them all the same.
abbrev pub RefusedFallRaises : Type 0
RefusedFallRaises = rows falls hanging ((at_level left 1 ∷ []) ∷ [])
    ≡ row (at_level high 0 ∷ at_level high 0 ∷ []) (right ∷ high ∷ []) (0 ∷ []) (refused_at 1 high ∷ []) ∷ []

-- No fall: the condition alone raises them, to left. goto P is refused, since left isn't at or below P's level low.
abbrev pub WithoutFall : Type 0
WithoutFall = rows falls hanging ((at_level left 0 ∷ []) ∷ [])
    ≡ row (at_level left 0 ∷ at_level left 0 ∷ []) (right ∷ left ∷ []) (0 ∷ []) (refused_at 2 left ∷ []) ∷ []
