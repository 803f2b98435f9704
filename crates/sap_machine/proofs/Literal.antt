-- The program of the machine, written out: what hangs on each command is nothing, since all but the inputs is enforced.
use Rattle.std.specs.Prelude.{ℕ, Bool, false, List, [], ◌∷◌, get_or}
use Rattle.sap_lattice.specs.Prelude.{Order, table, is_below, level_in}
use Rattle.sap_maps.specs.Term.{Term, constant, read, cell, one, two, part}
use Rattle.sap_bits.specs.declared.Op1.TheVariants.{Not}
use Rattle.sap_bits.specs.declared.Op2.TheVariants.{Add, Sub, Eq}
use Rattle.sap_meaning.specs.Program.{Entity, World, Program, fixed, assign, write, retag, go_to, fall_to_child, Command, lone, if_else, Block, end_block, command_then, State, state_node, Group, no_node, and_node}
use Rattle.sap_meaning.specs.Examples.{an_input, held_register, held_memory, held_state}

-- the levels low, a, b and high
abbrev pub low : ℕ
low = 0

abbrev pub level_a : ℕ
level_a = 1

abbrev pub level_b : ℕ
level_b = 2

-- The order of the lattice of four levels, by tables: a number that is no level counts as low.
abbrev pub joins : List (List ℕ)
joins = (0 ∷ 1 ∷ 2 ∷ 3 ∷ []) ∷ (1 ∷ 1 ∷ 3 ∷ 3 ∷ []) ∷ (2 ∷ 3 ∷ 2 ∷ 3 ∷ []) ∷ (3 ∷ 3 ∷ 3 ∷ 3 ∷ []) ∷ []

abbrev pub diamond_order : Order
diamond_order = record {
  count = 4;
  le = λ x y. is_below table (level_in 4 x) (level_in 4 y);
  join = λ x y. get_or (get_or joins (level_in 4 x) []) (level_in 4 y) 0;
  bottom = 0;
  top = 3;
}

-- what hangs on each command: nothing, for all is enforced
abbrev pub none : List Bool
none = false ∷ false ∷ false ∷ false ∷ false ∷ false ∷ false ∷ false ∷ false ∷ false ∷ false ∷ false ∷ false ∷ false ∷ false ∷ false ∷ false ∷ false ∷ false ∷ false ∷ []

-- the entities, in the order of the text
abbrev pub wa : ℕ
wa = 0

abbrev pub wb : ℕ
wb = 1

abbrev pub pc : ℕ
pc = 2

abbrev pub acc : ℕ
acc = 3

abbrev pub ir : ℕ
ir = 4

abbrev pub cnt : ℕ
cnt = 5

abbrev pub who : ℕ
who = 6

abbrev pub n : ℕ
n = 7

abbrev pub apc : ℕ
apc = 8

abbrev pub aacc : ℕ
aacc = 9

abbrev pub bpc : ℕ
bpc = 10

abbrev pub bacc : ℕ
bacc = 11

abbrev pub pa : ℕ
pa = 12

abbrev pub pb : ℕ
pb = 13

abbrev pub da : ℕ
da = 14

abbrev pub db : ℕ
db = 15

abbrev pub boot : ℕ
boot = 16

abbrev pub kernel : ℕ
kernel = 17

abbrev pub run : ℕ
run = 18

abbrev pub user : ℕ
user = 19

abbrev pub entities : List Entity
entities =
    an_input 12 ∷ an_input 12
    ∷ held_register 4 low 1 ∷ held_register 8 low 0 ∷ held_register 12 low 0
    ∷ held_register 3 low 0 ∷ held_register 1 low 1 ∷ held_register 4 low 0
    ∷ held_register 4 level_a 0 ∷ held_register 8 level_a 0 ∷ held_register 4 level_b 0 ∷ held_register 8 level_b 0
    ∷ held_memory 12 16 level_a ∷ held_memory 12 16 level_b ∷ held_memory 8 16 level_a ∷ held_memory 8 16 level_b
    ∷ held_state 0 16 low ∷ held_state 1 17 low ∷ held_state 2 19 low ∷ held_state 0 19 low ∷ []

abbrev pub machine_world : World
machine_world = record {
  order = diamond_order;
  entities = entities;
  children = 0 ∷ 0 ∷ 0 ∷ 0 ∷ 0 ∷ 0 ∷ 0 ∷ 0 ∷ 0 ∷ 0 ∷ 0 ∷ 0 ∷ 0 ∷ 0 ∷ 0 ∷ 0 ∷ 0 ∷ 0 ∷ 1 ∷ 0 ∷ 3 ∷ [];
}

-- commands, one after another
abbrev pub block : List Command → Block
block [] = end_block
block (c ∷ cs) = command_then c (block cs)

abbrev pub when : Term ℕ → List Command → Command
when e cs = if_else none e (block cs) end_block

abbrev pub if_or : Term ℕ → (then_part else_part : List Command) → Command
if_or e a b = if_else none e (block a) (block b)

-- x := e, m[i] := e, setTag(x, l), goto s and fall, with their sites
abbrev pub set : (site x : ℕ) → Term ℕ → Command
set site x e = lone (assign site x e)

abbrev pub store : (site m : ℕ) → (index value : Term ℕ) → Command
store site m i e = lone (write site m i e)

abbrev pub set_tag : (site x level : ℕ) → Command
set_tag site x l = lone (retag site x (fixed l))

abbrev pub goto : (site s : ℕ) → Command
goto site s = lone (go_to site s)

abbrev pub fall : (site : ℕ) → Command
fall site = lone (fall_to_child site none)

-- e == k, for e of width u
abbrev pub is : (u : ℕ) → Term ℕ → ℕ → Term ℕ
is u e k = two Eq e (constant u k)

-- who == 0
abbrev pub turn_of_a : Term ℕ
turn_of_a = is 1 (read who) 0

-- ir[11:8], ir[7:0] and ir[3:0]
abbrev pub op : Term ℕ
op = part (read ir) 11 8

abbrev pub byte : Term ℕ
byte = part (read ir) 7 0

abbrev pub place : Term ℕ
place = part (read ir) 3 0

-- if (ir[11:8] == k) { .. }
abbrev pub on : (k : ℕ) → List Command → Command
on k cs = when (is 4 op k) cs

abbrev pub state : (number : ℕ) → List Command → Group → State
state number body children = state_node number (block body) children

abbrev pub group : List State → Group
group [] = no_node
group (s ∷ ss) = and_node s (group ss)

abbrev pub boot_body : List Command
boot_body =
    store 1 pa (read n) (read wa)
    ∷ store 2 pb (read n) (read wb)
    ∷ set 3 n (two Add (read n) (constant 4 1))
    ∷ if_or (is 4 (read n) 0) (goto 4 kernel ∷ []) (goto 5 boot ∷ [])
    ∷ []

abbrev pub kernel_body : List Command
kernel_body =
    if_or turn_of_a
    (set 6 apc (two Sub (read pc) (constant 4 1)) ∷ set 7 aacc (read acc) ∷ [])
    (set 8 bpc (two Sub (read pc) (constant 4 1)) ∷ set 9 bacc (read acc) ∷ [])
    ∷ set_tag 10 pc low ∷ set_tag 11 acc low ∷ set_tag 12 ir low
    ∷ set 13 who (one Not (read who))
    ∷ if_or turn_of_a
    (set_tag 14 pc level_a ∷ set_tag 15 acc level_a ∷ set_tag 16 ir level_a ∷ set_tag 17 user level_a
    ∷ set 18 pc (read apc) ∷ set 19 acc (read aacc) ∷ [])
    (set_tag 20 pc level_b ∷ set_tag 21 acc level_b ∷ set_tag 22 ir level_b ∷ set_tag 23 user level_b
    ∷ set 24 pc (read bpc) ∷ set 25 acc (read bacc) ∷ [])
    ∷ set 26 cnt (constant 3 4)
    ∷ goto 27 run
    ∷ []

abbrev pub run_body : List Command
run_body =
    if_or (is 3 (read cnt) 0)
    (goto 28 kernel ∷ [])
    (set 29 cnt (two Sub (read cnt) (constant 3 1)) ∷ fall 30 ∷ [])
    ∷ []

abbrev pub user_body : List Command
user_body =
    on 1 (set 31 acc byte ∷ [])
    ∷ on 2 (if_or turn_of_a (set 32 acc (cell da place) ∷ []) (set 33 acc (cell db place) ∷ []) ∷ [])
    ∷ on 3 (if_or turn_of_a (store 34 da place (read acc) ∷ []) (store 35 db place (read acc) ∷ []) ∷ [])
    ∷ on 4 (if_or turn_of_a (set 36 acc (two Add (read acc) (cell da place)) ∷ []) (set 37 acc (two Add (read acc) (cell db place)) ∷ []) ∷ [])
    ∷ on 5 (if_or turn_of_a (set 38 acc (two Sub (read acc) (cell da place)) ∷ []) (set 39 acc (two Sub (read acc) (cell db place)) ∷ []) ∷ [])
    ∷ on 6 (set 40 pc place ∷ [])
    ∷ on 7 (when (is 8 (read acc) 0) (set 41 pc place ∷ []) ∷ [])
    ∷ on 8 (set 42 pc (two Sub (read pc) (constant 4 1)) ∷ [])
    ∷ if_or turn_of_a (set 43 ir (cell pa (read pc)) ∷ []) (set 44 ir (cell pb (read pc)) ∷ [])
    ∷ set 45 pc (two Add (read pc) (constant 4 1))
    ∷ goto 46 user
    ∷ []

abbrev pub states : Group
states = group (
    state boot boot_body no_node
    ∷ state kernel kernel_body no_node
    ∷ state run run_body (group (state user user_body no_node ∷ []))
    ∷ [])

abbrev pub machine : Program
machine = record { world = machine_world; states = states; hang = none }
