-- A small program that has all that a well-formed design gives: the premises of the laws can be met.
use Rattle.std.specs.Prelude.{Bool, true, false, List, [], ◌∷◌}
use Rattle.sap_maps.specs.Term.{constant, read, cell, two}
use Rattle.sap_bits.specs.declared.Op2.TheVariants.{Eq}
use Rattle.sap_meaning.specs.Program.{Entity, World, fixed, of, at_place, assign, write, retag, retag_cell, go_to, fall_to_child, lone, try, if_else, Block, end_block, command_then, state_node, Group, no_node, and_node, Program}
use Rattle.sap_meaning.specs.Examples.{two_levels, an_input, a_register, held_register, a_memory, held_memory, a_state, held_state}
use Rattle.sap_meaning.specs.Fine.{FineProgram, ExactProgram}
use Rattle.sap_meaning.specs.Sized.{SizedProgram}
use Rattle.sap_meaning.specs.Sites.{RisesFrom, program_sites}

-- The entities of the text `input a : 2; reg x : 8 dynamic; reg y : 8 enforced low = 7; mem m : 8[4] dynamic; mem k :
-- 8[4] enforced low;` and of the states P, with the children C and D, and Q, which have the numbers 5, 6, 7 and 8.
abbrev pub sample_entities : List Entity
sample_entities = an_input 2 ∷ a_register 8 ∷ held_register 8 0 7 ∷ a_memory 8 4 ∷ held_memory 8 4 0
    ∷ held_state 0 7 0 ∷ a_state 0 6 ∷ held_state 1 7 1 ∷ held_state 1 8 1 ∷ []

-- The entities of the program, over two levels.
abbrev pub sample_world : World
sample_world = record {
  order = two_levels;
  entities = sample_entities;
  children = 0 ∷ 0 ∷ 0 ∷ 0 ∷ 0 ∷ 2 ∷ 0 ∷ 0 ∷ 0 ∷ 2 ∷ [];
}

-- What the `fall` of P touches: x, m and C.
abbrev pub on_fall : List Bool
on_fall = false ∷ true ∷ false ∷ true ∷ false ∷ false ∷ true ∷ []

-- What the root's fall touches: x and m.
abbrev pub on_root : List Bool
on_root = false ∷ true ∷ false ∷ true ∷ []

-- The text `m[a] := 5; x := m[a]; goto D;`.
abbrev pub body_c : Block
body_c = command_then (lone (write 0 3 (read 0) (constant 8 5)))
    (command_then (lone (assign 0 1 (cell 3 (read 0)))) (command_then (lone (go_to 7 7)) end_block))

-- The text `setTag(y, high); goto C;`.
abbrev pub body_d : Block
body_d = command_then (lone (retag 8 2 (fixed 1))) (command_then (lone (go_to 9 6)) end_block)

-- The text `setTag(k[a], level(a)); setTag(D, tag(x)); goto P;`.
abbrev pub body_q : Block
body_q = command_then (lone (retag_cell 10 4 (read 0) (at_place (read 0))))
    (command_then (lone (retag 11 7 (of (read 1)))) (command_then (lone (go_to 12 5)) end_block))

-- The text `y := m[a] otherwise { y := 9; } k[a] := x; if (a == 1) { goto Q; } else { fall otherwise { goto P; } }`.
abbrev pub body_p : Block
body_p = command_then (try (assign 1 2 (cell 3 (read 0))) []
    (command_then (lone (assign 2 2 (constant 8 9))) end_block))
    (command_then (lone (write 3 4 (read 0) (read 1)))
    (command_then (if_else on_fall (two Eq (read 0) (constant 2 1)) (command_then (lone (go_to 4 8)) end_block)
    (command_then (try (fall_to_child 5 on_fall) on_fall (command_then (lone (go_to 6 5)) end_block)) end_block))
    end_block))

-- The children of P: C and D.
abbrev pub sample_kids : Group
sample_kids = and_node (state_node 6 body_c no_node) (and_node (state_node 7 body_d no_node) no_node)

-- The top-level states: P and Q.
abbrev pub sample_states : Group
sample_states = and_node (state_node 5 body_p sample_kids) (and_node (state_node 8 body_q no_node) no_node)

-- The program.
abbrev pub sample : Program
sample = record { world = sample_world; states = sample_states; hang = on_root }

-- The sample has all that the laws ask of a program.
pub record SampleIsFine : Type 0 where
  pub fine : FineProgram sample
  pub exact : ExactProgram sample
  pub sized : SizedProgram sample
  pub sites : RisesFrom 1 (program_sites sample)
