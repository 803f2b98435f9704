-- A design whose states are compared, and how they are changed.
use Rattle.std.specs.Prelude.{ℕ, [], ◌∷◌}
use Rattle.sap_meaning.specs.Program.{World, fall_to_child, lone, Block, end_block, command_then, state_node, no_node, and_node, Program}
use Rattle.sap_meaning.specs.Store.{Store, Slot, own, start, next, put_number, put_level, put_child}
use Rattle.sap_meaning.specs.State.{first}
use Rattle.sap_meaning.specs.Examples.{four_levels, an_input, a_register, held_register, a_memory, held_memory, a_state, held_state}
use Rattle.sap_worked.specs.Rows.{left, right, high, low, register_under, memory_under, state_under, goes}

-- The number of the input a. Each name below is the number of an entity of `ground`.
abbrev pub input_a : ℕ
input_a = 0

-- The dynamic register.
abbrev pub register_x : ℕ
register_x = 1

-- The register enforced at `left`.
abbrev pub register_y : ℕ
register_y = 2

-- The register enforced at `high` under `right`.
abbrev pub register_z : ℕ
register_z = 3

-- The dynamic memory.
abbrev pub memory_m : ℕ
memory_m = 4

-- The memory enforced at `left`.
abbrev pub memory_k : ℕ
memory_k = 5

-- The memory enforced at `high` under `right`.
abbrev pub memory_h : ℕ
memory_h = 6

-- The first state of the root, enforced at the bottom, with three children.
abbrev pub state_p : ℕ
state_p = 7

-- The first child of p, with two children.
abbrev pub state_c : ℕ
state_c = 8

-- The first child of c.
abbrev pub state_f : ℕ
state_f = 9

-- The second child of c.
abbrev pub state_g : ℕ
state_g = 10

-- The second child of p, enforced at `right`.
abbrev pub state_d : ℕ
state_d = 11

-- The third child of p, enforced at `high`.
abbrev pub state_e : ℕ
state_e = 12

-- The second state of the root, enforced at `left`, with two children.
abbrev pub state_q : ℕ
state_q = 13

-- The first child of q.
abbrev pub state_i : ℕ
state_i = 14

-- The second child of q, enforced at `high` under `right`.
abbrev pub state_j : ℕ
state_j = 15

-- The root.
abbrev pub the_root : ℕ
the_root = 16

-- The entities: an input, registers, memories and states of each kind, over four levels.
abbrev pub ground_world : World
ground_world = record {
  order = four_levels;
  entities = an_input 8 ∷ a_register 8 ∷ held_register 8 left 0 ∷ register_under 8 high right 0
      ∷ a_memory 8 2 ∷ held_memory 8 2 left ∷ memory_under 8 2 high right
      ∷ held_state 0 12 low ∷ a_state 0 10 ∷ a_state 0 9 ∷ a_state 1 10 ∷ held_state 1 11 right ∷ held_state 2 12 high
      ∷ held_state 1 15 left ∷ a_state 0 14 ∷ state_under 1 15 high right ∷ [];
  children = 0 ∷ 0 ∷ 0 ∷ 0 ∷ 0 ∷ 0 ∷ 0 ∷ 3 ∷ 2 ∷ 0 ∷ 0 ∷ 0 ∷ 0 ∷ 2 ∷ 0 ∷ 0 ∷ 2 ∷ [];
}

-- A body that falls.
abbrev pub falls : (site : ℕ) → Block
falls site = command_then (lone (fall_to_child site [])) end_block

-- The text `input a : 8; reg x : 8 dynamic; reg y : 8 enforced left; reg z : 8 enforced high under right; mem m : 8[2]
-- dynamic; mem k : 8[2] enforced left; mem h : 8[2] enforced high under right; state P enforced low { fall; state C
-- dynamic { fall; state F dynamic { goto G; } state G dynamic { goto F; } } state D enforced right { goto E; } state E
-- enforced high { goto C; } } state Q enforced left { fall; state I dynamic { goto J; } state J enforced high under
-- right { goto I; } }`.
abbrev pub ground : Program
ground = record {
  world = ground_world;
  states =
      and_node (state_node state_p (falls 1)
      (and_node (state_node state_c (falls 0) (and_node (state_node state_f (goes 0 state_g) no_node)
      (and_node (state_node state_g (goes 0 state_f) no_node) no_node)))
      (and_node (state_node state_d (goes 2 state_e) no_node)
      (and_node (state_node state_e (goes 3 state_c) no_node) no_node))))
      (and_node (state_node state_q (falls 4) (and_node (state_node state_i (goes 5 state_j) no_node)
      (and_node (state_node state_j (goes 6 state_i) no_node) no_node))) no_node);
  hang = [];
}

-- The first state: P, C and F are active. It has x and m at low, y and k at left, z and h at high, all with the number
-- 0.
abbrev pub calm : Store
calm = first ground_world

-- The store with a number and a level put in a slot.
abbrev pub slot_has : Slot → (number level : ℕ) → Store → Store
slot_has a n t s = put_level ground_world a t (put_number a n s)

-- The store with a register's number and level put.
abbrev pub register_has : (register number level : ℕ) → Store → Store
register_has x n t s = slot_has (own x) n t s

-- The store with a number and a level put in both parts of a memory's cell.
abbrev pub cell_has : (memory index number level : ℕ) → Store → Store
cell_has m i n t s = slot_has (start m i) n t (slot_has (next m i) n t s)

-- The store with an entity's level put.
abbrev pub level_is : (entity level : ℕ) → Store → Store
level_is x t s = put_level ground_world (own x) t s

-- The store with the current child of a state, or of the root, put at a place.
abbrev pub child_is : (parent place : ℕ) → Store → Store
child_is p n s = put_child p n s
