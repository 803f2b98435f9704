-- Small programs whose runs are computed.
use Rattle.std.specs.Prelude.{◌≡◌, ℕ, true, false, ◌||◌, List, [], ◌∷◌, nat_eq, if◌then◌else◌}
use Rattle.sap_lattice.specs.Order.{Order}
use Rattle.sap_maps.specs.Term.{constant, read, cell, two}
use Rattle.sap_bits.specs.declared.Op2.TheVariants.{Add, Eq}
use Rattle.sap_meaning.specs.Program.{Entity, input, register, memory, state, fixed, at_place, assign, write, retag, go_to, fall_to_child, Command, lone, try, if_else, Block, end_block, command_then, state_node, Group, no_node, and_node, Program}
use Rattle.sap_meaning.specs.Store.{own, number, Refusal, After}
use Rattle.sap_meaning.specs.Cycle.{Tagged}
use Rattle.sap_meaning.specs.State.{labelled_run}

-- Low is level 0, high is level 1.
abbrev pub two_levels : Order
two_levels = record {
  count = 2;
  le = λ x y. if nat_eq x 1 then nat_eq y 1 else true;
  join = λ x y. if nat_eq x 1 || nat_eq y 1 then 1 else 0;
  bottom = 0;
  top = 1;
}

-- Low is level 0, high is level 3, and levels 1 and 2 stand between them.
abbrev pub four_levels : Order
four_levels = record {
  count = 4;
  le = λ x y. nat_eq x 0 || (nat_eq y 3 || nat_eq x y);
  join = λ x y. if nat_eq x 0 then y else if nat_eq y 0 then x else if nat_eq x y then x else 3;
  bottom = 0;
  top = 3;
}

-- An input of some width, for examples.
abbrev pub an_input : ℕ → Entity
an_input u = record { kind = input; width = u; dynamic = true; declared = 0; authority = 0; initial = 0 }

-- A dynamic register of some width.
abbrev pub a_register : ℕ → Entity
a_register u = record { kind = register; width = u; dynamic = true; declared = 0; authority = 0; initial = 0 }

-- An enforced register with its level and the number that it starts with.
abbrev pub held_register : (width level initial : ℕ) → Entity
held_register u t n = record { kind = register; width = u; dynamic = false; declared = t; authority = 0; initial = n }

-- A dynamic memory of some width and depth.
abbrev pub a_memory : (width depth : ℕ) → Entity
a_memory u d = record { kind = memory d; width = u; dynamic = true; declared = 0; authority = 0; initial = 0 }

-- A memory that is enforced at a level.
abbrev pub held_memory : (width depth level : ℕ) → Entity
held_memory u d t = record { kind = memory d; width = u; dynamic = false; declared = t; authority = 0; initial = 0 }

-- A dynamic state at a place of its group.
abbrev pub a_state : (place last : ℕ) → Entity
a_state n m = record { kind = state n m; width = 0; dynamic = true; declared = 0; authority = 0; initial = 0 }

-- A state that is enforced at a level.
abbrev pub held_state : (place last level : ℕ) → Entity
held_state n m t = record { kind = state n m; width = 0; dynamic = false; declared = t; authority = 0; initial = 0 }

-- A number at a level.
abbrev pub at_level : ℕ → ℕ → Tagged
at_level t n = record { number = n; level = t }

-- A number at the lower of two levels.
abbrev pub low : ℕ → Tagged
low n = at_level 0 n

-- A number at the higher of two levels.
abbrev pub high : ℕ → Tagged
high n = at_level 1 n

-- A cycle as it shows: a register with its level, and what was refused.
abbrev pub shown : ℕ → After → Tagged × List Refusal
shown x a = (record { number = number (own x) a.store; level = a.store.level (own x) }, a.refused)

-- What is shown of a register after each of these cycles.
abbrev pub all_shown : ℕ → List After → List (Tagged × List Refusal)
all_shown x [] = []
all_shown x (a ∷ as') = shown x a ∷ all_shown x as'

-- What a program shows of a register in each cycle of a run.
abbrev pub shows : Program → ℕ → List (List Tagged) → List (Tagged × List Refusal)
shows p x stream = all_shown x (labelled_run p stream)

-- The refusal of a site that is seen at a level.
abbrev pub refused_at : (site level : ℕ) → Refusal
refused_at k t = record { site = k; level = t }

-- The programs below have no lists of what hangs, since the labelled run does not read them.
abbrev pub program_of : Order → List Entity → (children : List ℕ) → Group → Program
program_of o es children g = record {
  world = record { order = o; entities = es; children = children };
  states = g;
  hang = [];
}

-- The group of the state s alone, which has no children and goes to itself after its commands.
abbrev pub loop : (s site : ℕ) → (Block → Block) → Group
loop s site b = and_node (state_node s (b (command_then (lone (go_to site s)) end_block)) no_node) no_node

-- The text `input a : 8; reg x : 8 dynamic; state S enforced low { x := a + 1; goto S; }`.
abbrev pub sum : Program
sum = program_of two_levels (an_input 8 ∷ a_register 8 ∷ held_state 0 2 0 ∷ []) (0 ∷ 0 ∷ 0 ∷ 1 ∷ [])
    (loop 2 1 (λ b. command_then (lone (assign 0 1 (two Add (read 0) (constant 8 1)))) b))

-- A register that takes its input plus one has the input's level too, and 255 + 1 is 0 at width 8.
abbrev pub Sum : Type 0
Sum = shows sum 1 ((low 5 ∷ []) ∷ (high 255 ∷ []) ∷ []) ≡ (low 6, []) ∷ (high 0, []) ∷ []

-- The text `input a : 8; reg y : 8 enforced low = 7; state S enforced low { y := a; goto S; }`.
abbrev pub guarded : Program
guarded = program_of two_levels (an_input 8 ∷ held_register 8 0 7 ∷ held_state 0 2 0 ∷ []) (0 ∷ 0 ∷ 0 ∷ 1 ∷ [])
    (loop 2 2 (λ b. command_then (lone (assign 1 1 (read 0))) b))

-- A write from above is refused, and the refusal is recorded at the level of the target.
abbrev pub GuardedWrite : Type 0
GuardedWrite = shows guarded 1 ((high 5 ∷ []) ∷ (low 5 ∷ []) ∷ []) ≡ (low 7, refused_at 1 0 ∷ []) ∷ (low 5, []) ∷ []

-- The design of `guarded` with `y := a otherwise { y := 9; }` in place of the assignment.
abbrev pub handled : Program
handled = program_of two_levels (an_input 8 ∷ held_register 8 0 7 ∷ held_state 0 2 0 ∷ []) (0 ∷ 0 ∷ 0 ∷ 1 ∷ [])
    (loop 2 3 (λ b. command_then (try (assign 1 1 (read 0)) []
    (command_then (lone (assign 2 1 (constant 8 9))) end_block)) b))

-- A handler at the level of the guard may write.
abbrev pub Handler : Type 0
Handler = shows handled 1 ((high 5 ∷ []) ∷ []) ≡ (low 9, refused_at 1 0 ∷ []) ∷ []

-- The text `input a : 8; reg x : 8 dynamic; state S enforced low { if (a == 1) { x := 1; } goto S; }`.
abbrev pub conditional : Program
conditional = program_of two_levels (an_input 8 ∷ a_register 8 ∷ held_state 0 2 0 ∷ []) (0 ∷ 0 ∷ 0 ∷ 1 ∷ [])
    (loop 2 1 (λ b. command_then (if_else [] (two Eq (read 0) (constant 8 1))
    (command_then (lone (assign 0 1 (constant 8 1))) end_block) end_block) b))

-- What hangs on a condition is raised in the branch that is not taken, too.
abbrev pub BranchNotTaken : Type 0
BranchNotTaken = shows conditional 1 ((high 0 ∷ []) ∷ []) ≡ (high 0, []) ∷ []

-- The text `input a : 8; reg z : 8 enforced high = 3; state S enforced low { z := a; setTag(z, low); goto S; }`.
abbrev pub lowered_tag : Program
lowered_tag = program_of two_levels (an_input 8 ∷ held_register 8 1 3 ∷ held_state 0 2 0 ∷ []) (0 ∷ 0 ∷ 0 ∷ 1 ∷ [])
    (loop 2 3 (λ b. command_then (lone (assign 1 1 (read 0))) (command_then (lone (retag 2 1 (fixed 0))) b)))

-- A lower level sets the number to 0, and the next write from above is refused.
abbrev pub LoweredTag : Type 0
LoweredTag = shows lowered_tag 1 ((high 5 ∷ []) ∷ (high 6 ∷ []) ∷ []) ≡ (low 0, []) ∷ (low 0, refused_at 1 0 ∷ []) ∷ []

-- The text `input a : 8; reg z : 8 enforced low = 3; state S enforced low { setTag(z, level(a)); goto S; }`.
abbrev pub placed_tag : Program
placed_tag = program_of two_levels (an_input 8 ∷ held_register 8 0 3 ∷ held_state 0 2 0 ∷ []) (0 ∷ 0 ∷ 0 ∷ 1 ∷ [])
    (loop 2 2 (λ b. command_then (lone (retag 1 1 (at_place (read 0)))) b))

-- A place beyond the last level gives the top; and a `setTag` is refused if what its tag expression tells is not at or
-- below the authority.
abbrev pub PlacedTag : Type 0
PlacedTag = shows placed_tag 1 ((low 7 ∷ []) ∷ (low 0 ∷ []) ∷ (high 1 ∷ []) ∷ []) ≡ (high 3, [])
    ∷ (low 0, []) ∷ (low 0, refused_at 1 0 ∷ []) ∷ []

-- The text `reg q : 8 enforced high under level 1 = 4; state S enforced low { setTag(q, level 2); goto S; }`.
abbrev pub under_authority : Program
under_authority = program_of four_levels
    (record { kind = register; width = 8; dynamic = false; declared = 3; authority = 1; initial = 4 }
    ∷ held_state 0 1 0 ∷ []) (0 ∷ 0 ∷ 1 ∷ [])
    (loop 1 2 (λ b. command_then (lone (retag 1 0 (fixed 2))) b))

-- A `setTag` to a level that is not at or above the authority is refused.
abbrev pub UnderAuthority : Type 0
UnderAuthority = shows under_authority 0 ([] ∷ []) ≡ (at_level 3 4, refused_at 1 1 ∷ []) ∷ []

-- The text `if (a == 1) { goto the state t; } else { goto the state s; }`, in which the check sites are k and j.
abbrev pub fork : (t k s j : ℕ) → Block
fork t k s j = command_then (if_else [] (two Eq (read 0) (constant 8 1))
    (command_then (lone (go_to k t)) end_block) (command_then (lone (go_to j s)) end_block)) end_block

-- The text `x := n`.
abbrev pub put_x : ℕ → Command
put_x n = lone (assign 0 1 (constant 8 n))

-- The text `state S enforced low { x := 1; if (a == 1) { goto T; } else { goto S; } } state T enforced high { x := 2;
-- goto T; }`.
abbrev pub enforced_states : Program
enforced_states = program_of two_levels (an_input 8 ∷ a_register 8 ∷ held_state 0 2 0 ∷ held_state 1 3 1
    ∷ []) (0 ∷ 0 ∷ 0 ∷ 0 ∷ 2 ∷ [])
    (and_node (state_node 2 (command_then (put_x 1) (fork 3 1 2 2)) no_node)
    (and_node (state_node 3 (command_then (put_x 2) (command_then (lone (go_to 3 3)) end_block)) no_node) no_node))

-- A goto under a condition from above leaves an enforced state where it is.
abbrev pub EnforcedStates : Type 0
EnforcedStates = shows enforced_states 1 ((high 1 ∷ []) ∷ (low 0 ∷ []) ∷ [])
    ≡ (low 1, refused_at 1 1 ∷ []) ∷ (low 1, []) ∷ []

-- The text `state S dynamic { x := 0; if (a == 1) { goto T; } else { goto S; } } state T dynamic { x := 1; goto T; }`.
abbrev pub dynamic_states : Program
dynamic_states = program_of two_levels (an_input 8 ∷ a_register 8 ∷ a_state 0 2 ∷ a_state 1 3 ∷ [])
    (0 ∷ 0 ∷ 0 ∷ 0 ∷ 2 ∷ [])
    (and_node (state_node 2 (command_then (put_x 0) (fork 3 0 2 0)) no_node)
    (and_node (state_node 3 (command_then (put_x 1) (command_then (lone (go_to 0 3)) end_block)) no_node) no_node))

-- A dynamic state takes the level of what led to it, whichever it was.
abbrev pub DynamicStates : Type 0
DynamicStates = (shows dynamic_states 1 ((high 1 ∷ []) ∷ (low 0 ∷ []) ∷ []) ≡ (low 0, []) ∷ (high 1, []) ∷ [])
    × (shows dynamic_states 1 ((high 0 ∷ []) ∷ (low 0 ∷ []) ∷ []) ≡ (low 0, []) ∷ (high 0, []) ∷ [])

-- The text `state P enforced low { if (a == 1) { fall; } else { fall; } state C enforced low { x := 1; goto C; } }`.
abbrev pub falls_twice : Program
falls_twice = program_of two_levels (an_input 8 ∷ a_register 8 ∷ held_state 0 3 0 ∷ held_state 0 3 0
    ∷ []) (0 ∷ 0 ∷ 1 ∷ 0 ∷ 1 ∷ [])
    (and_node (state_node 2 (command_then (if_else [] (two Eq (read 0) (constant 8 1))
    (command_then (lone (fall_to_child 1 [])) end_block)
    (command_then (lone (fall_to_child 2 [])) end_block)) end_block)
    (and_node (state_node 3 (command_then (put_x 1) (command_then (lone (go_to 3 3)) end_block)) no_node) no_node))
    no_node)

-- What is assigned below a fall hangs on the condition, and a fall from above into an enforced state is refused.
abbrev pub FallsTwice : Type 0
FallsTwice = shows falls_twice 1 ((high 1 ∷ []) ∷ (low 1 ∷ []) ∷ []) ≡ (high 0, refused_at 1 1 ∷ []) ∷ (low 1, []) ∷ []

-- The text `state P enforced low { fall; state C dynamic { x := 0; if (a == 1) { goto D; } else { goto C; } } state D
-- dynamic { x := 1; goto D; } }`.
abbrev pub falls_into : Program
falls_into = program_of two_levels (an_input 8 ∷ a_register 8 ∷ held_state 0 4 0 ∷ a_state 0 3
    ∷ a_state 1 4 ∷ []) (0 ∷ 0 ∷ 2 ∷ 0 ∷ 0 ∷ 1 ∷ [])
    (and_node (state_node 2 (command_then (lone (fall_to_child 0 [])) end_block)
    (and_node (state_node 3 (command_then (put_x 0) (fork 4 0 3 0)) no_node)
    (and_node (state_node 4 (command_then (put_x 1) (command_then (lone (go_to 0 4)) end_block)) no_node) no_node)))
    no_node)

-- The body that a fall enters runs in the context joined with its state's level.
abbrev pub FallsInto : Type 0
FallsInto = shows falls_into 1 ((high 1 ∷ []) ∷ (low 0 ∷ []) ∷ []) ≡ (low 0, []) ∷ (high 1, []) ∷ []

-- The text `state P enforced low { if (a == 1) { goto Q; } else { fall; } state C1 .. { x := 1; goto C2; } state C2 ..
-- { x := 2; goto C2; } } state Q enforced low { x := 9; goto P; }`.
abbrev pub resets : Program
resets = program_of two_levels (an_input 8 ∷ a_register 8 ∷ held_state 0 4 0 ∷ held_state 0 3 0
    ∷ held_state 1 4 0 ∷ held_state 1 5 0 ∷ []) (0 ∷ 0 ∷ 2 ∷ 0 ∷ 0 ∷ 0 ∷ 2 ∷ [])
    (and_node (state_node 2 (command_then (if_else [] (two Eq (read 0) (constant 8 1))
    (command_then (lone (go_to 1 5)) end_block)
    (command_then (lone (fall_to_child 2 [])) end_block)) end_block)
    (and_node (state_node 3 (command_then (put_x 1) (command_then (lone (go_to 3 4)) end_block)) no_node)
    (and_node (state_node 4 (command_then (put_x 2) (command_then (lone (go_to 4 4)) end_block)) no_node) no_node)))
    (and_node (state_node 5 (command_then (put_x 9) (command_then (lone (go_to 5 2)) end_block)) no_node) no_node))

-- A goto takes the groups below its target back to their first children.
abbrev pub Resets : Type 0
Resets = shows resets 1 ((low 0 ∷ []) ∷ (low 0 ∷ []) ∷ (low 1 ∷ []) ∷ (low 0 ∷ []) ∷ (low 0 ∷ []) ∷ [])
    ≡ (low 1, []) ∷ (low 2, []) ∷ (low 2, []) ∷ (low 9, []) ∷ (low 1, []) ∷ []

-- The text `input a : 2; input b : 2; mem m : 8[4] dynamic; reg x : 8 dynamic; state S enforced low { m[a] := 5; x :=
-- m[b]; goto S; }`.
abbrev pub memory_read : Program
memory_read = program_of two_levels (an_input 2 ∷ an_input 2 ∷ a_memory 8 4 ∷ a_register 8
    ∷ held_state 0 4 0 ∷ []) (0 ∷ 0 ∷ 0 ∷ 0 ∷ 0 ∷ 1 ∷ [])
    (loop 4 1 (λ b. command_then (lone (write 0 2 (read 0) (constant 8 5)))
    (command_then (lone (assign 0 3 (cell 2 (read 1)))) b)))

-- A read sees the cells and the level with which the cycle began.
abbrev pub MemoryRead : Type 0
MemoryRead = shows memory_read 3 ((high 1 ∷ low 1 ∷ []) ∷ (high 1 ∷ low 1 ∷ []) ∷ []) ≡ (low 0, []) ∷ (high 5, []) ∷ []

-- The text `input a : 2; mem k : 8[4] enforced low; reg y : 8 enforced low; state S enforced low { k[a] := 1 otherwise
-- { y := 9; } goto S; }`.
abbrev pub memory_handler : Program
memory_handler = program_of two_levels (an_input 2 ∷ held_memory 8 4 0 ∷ held_register 8 0 0
    ∷ held_state 0 3 0 ∷ []) (0 ∷ 0 ∷ 0 ∷ 0 ∷ 1 ∷ [])
    (loop 3 3 (λ b. command_then (try (write 1 1 (read 0) (constant 8 1)) []
    (command_then (lone (assign 2 2 (constant 8 9))) end_block)) b))

-- A handler runs in the context joined with the guard, to which the index belongs.
abbrev pub MemoryHandler : Type 0
MemoryHandler = shows memory_handler 2 ((high 3 ∷ []) ∷ []) ≡ (low 0, refused_at 1 1 ∷ refused_at 2 1 ∷ []) ∷ []
