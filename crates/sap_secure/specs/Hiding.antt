-- A command in a context that is not at or below low, and what it does: the premise of confinement is met.
use Rattle.std.specs.Prelude.{◌≡◌, [], ◌∷◌}
use Rattle.sap_maps.specs.Term.{constant}
use Rattle.sap_meaning.specs.Program.{assign, go_to, fall_to_child, Command, lone, try, try_then, Block, end_block, command_then, State, state_node, Group, no_node, and_node, Program}
use Rattle.sap_meaning.specs.Store.{Store, own, put_level, put_child, After, stay}
use Rattle.sap_meaning.specs.State.{first}
use Rattle.sap_meaning.specs.Agree.{StatesAgree, seen}
use Rattle.sap_meaning.specs.Fine.{FineProgram}
use Rattle.sap_meaning.specs.Examples.{two_levels, an_input, a_register, held_register, a_state, held_state, low, high, refused_at, program_of, shown, shows, fork, put_x}
use Rattle.sap_secure.specs.Confinement.{Situation, done_in, Hidden}

-- The text `z := 5 then { y := 5 otherwise { x := 1; } } otherwise { x := 2; }`.
abbrev pub decided : Command
decided = try_then (assign 1 3 (constant 8 5)) []
    (command_then (try (assign 2 2 (constant 8 5)) [] (command_then (put_x 1) end_block)) end_block)
    (command_then (put_x 2) end_block)

-- The text `if (a == 1) { goto D; } else { goto C; }`, the body of C.
abbrev pub body_c : Block
body_c = fork 6 0 5 0

-- The body of D: the command `decided`, and then `goto D;`.
abbrev pub body_d : Block
body_d = command_then decided (command_then (lone (go_to 0 6)) end_block)

-- The children of P: C and D.
abbrev pub states_below_p : Group
states_below_p = and_node (state_node 5 body_c no_node) (and_node (state_node 6 body_d no_node) no_node)

-- The text `fall;`, the body of P.
abbrev pub body_p : Block
body_p = command_then (lone (fall_to_child 0 [])) end_block

-- The state P with its body and its children.
abbrev pub state_p : State
state_p = state_node 4 body_p states_below_p

-- The text `input a : 8; reg x : 8 dynamic; reg y : 8 enforced low = 7; reg z : 8 enforced high = 3; state P enforced
-- low { fall; state C dynamic { if (a == 1) { goto D; } else { goto C; } } state D dynamic { z := .. goto D; } }`.
abbrev pub hiding : Program
hiding = program_of two_levels
    (an_input 8 ∷ a_register 8 ∷ held_register 8 0 7 ∷ held_register 8 1 3 ∷ held_state 0 6 0
    ∷ a_state 0 5 ∷ a_state 1 6 ∷ [])
    (0 ∷ 0 ∷ 0 ∷ 0 ∷ 2 ∷ 0 ∷ 0 ∷ 1 ∷ []) (and_node state_p no_node)

-- In the first cycle a, from above, leads to D, and in the second the fall enters D in the context high: x is raised
-- and given 1, and the write of y is refused at high.
abbrev pub EntersHigh : Type 0
EntersHigh = shows hiding 1 ((high 1 ∷ []) ∷ (low 0 ∷ []) ∷ []) ≡ (low 0, []) ∷ (high 1, refused_at 2 1 ∷ []) ∷ []

-- A state in which P's current child is D, and C, D and x are at high.
abbrev pub before : Store
before = put_child 4 1 (put_level hiding.world (own 1) 1
    (put_level hiding.world (own 5) 1 (put_level hiding.world (own 6) 1 (first hiding.world))))

-- The command in D, below P, in the context high.
abbrev pub in_d : Situation
in_d = record { way = state_p ∷ []; state = state_node 6 body_d no_node; command = decided; context = 1 }

-- What the command does there.
abbrev pub after : After
after = done_in hiding in_d before

-- The conditions of confinement hold of `decided`, at low. It writes z and x, which are at high, and not y, which is at
-- low; its refusal is recorded at high. So at low nothing is seen to change, and no refusal.
pub record HiddenAtLow : Type 0 where
  pub fine : FineProgram hiding
  pub premise : Hidden hiding 0 before in_d
  pub refused : after.refused ≡ refused_at 2 1 ∷ []
  pub x_given : ((shown 1 (stay before)).0 ≡ high 0) × ((shown 1 after).0 ≡ high 1)
  pub y_stays : ((shown 2 (stay before)).0 ≡ low 7) × ((shown 2 after).0 ≡ low 7)
  pub z_given : ((shown 3 (stay before)).0 ≡ high 3) × ((shown 3 after).0 ≡ high 5)
  pub agree : StatesAgree hiding 0 before after.store
  pub unseen : seen two_levels 0 after.refused ≡ []
