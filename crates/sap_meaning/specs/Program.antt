-- Programs with numbers for names, as resolving a design gives them. Entities (inputs, registers, memories and states)
-- are numbered from 0 in the order of the text; the number after the last stands for the implicit root.
use Rattle.std.specs.Prelude.{ℕ, Bool, true, false, List, length, get_or, ◌&&◌, nat_lt, nat_le}
use Rattle.sap_maps.specs.Term.{Term}
use Rattle.sap_lattice.specs.Order.{Order}

-- A memory has a depth. A state has a place in its group, from 0, and the number of the last state inside it,
-- its own where it is a leaf.
pub data Kind : Type 0 where
  input : Kind
  register : Kind
  memory : (depth : ℕ) → Kind
  state : (place last : ℕ) → Kind

-- An input, a register, a memory or a state. `width` is that of its numbers, 0 for a state. An enforced entity starts
-- with the level `declared` and has the authority `authority`. A register starts with the number `initial`. Inputs are
-- dynamic.
pub record Entity : Type 0 where
  pub kind : Kind
  pub width : ℕ
  pub dynamic : Bool
  pub declared : ℕ
  pub authority : ℕ
  pub initial : ℕ

-- What stays while a program runs. `children` has the number of children of each entity, the root's last.
pub record World : Type 0 where
  pub order : Order
  pub entities : List Entity
  pub children : List ℕ

-- A number past the last entity, the root's included, counts as a dynamic state without width.
abbrev pub nothing : Entity
nothing = record { kind = state 0 0; width = 0; dynamic = true; declared = 0; authority = 0; initial = 0 }

-- The entity of a number, and `nothing` if the number has none.
abbrev pub entity : World → ℕ → Entity
entity w x = get_or w.entities x nothing

-- The number of the root, which is one past the last entity.
abbrev pub root : World → ℕ
root w = length w.entities

-- The entity of a number is dynamic.
abbrev pub is_dynamic : World → ℕ → Bool
is_dynamic w x = (entity w x).dynamic

-- The authority of an entity, which is a level.
abbrev pub authority : World → ℕ → ℕ
authority w x = (entity w x).authority

-- The width of an entity.
abbrev pub width : World → ℕ → ℕ
width w x = (entity w x).width

-- How many children a state has, or the root.
abbrev pub children : World → ℕ → ℕ
children w p = get_or w.children p 0

-- The kind is that of an input.
abbrev pub kind_is_input : Kind → Bool
kind_is_input input = true
kind_is_input _ = false

-- The kind is that of a register.
abbrev pub kind_is_register : Kind → Bool
kind_is_register register = true
kind_is_register _ = false

-- The kind is that of a memory.
abbrev pub kind_is_memory : Kind → Bool
kind_is_memory (memory depth) = true
kind_is_memory _ = false

-- The kind is that of a state.
abbrev pub kind_is_state : Kind → Bool
kind_is_state (state place last) = true
kind_is_state _ = false

-- The entity of a number is an input.
abbrev pub is_input : World → ℕ → Bool
is_input w x = kind_is_input (entity w x).kind

-- The entity of a number is a register.
abbrev pub is_register : World → ℕ → Bool
is_register w x = kind_is_register (entity w x).kind

-- The entity of a number is a memory.
abbrev pub is_memory : World → ℕ → Bool
is_memory w x = kind_is_memory (entity w x).kind

-- The entity of a number is a state.
abbrev pub is_state : World → ℕ → Bool
is_state w x = kind_is_state (entity w x).kind

-- The place of a state in its group, from 0; 0 for another kind.
abbrev pub place_of : Kind → ℕ
place_of (state place last) = place
place_of _ = 0

-- The number of the last state inside a state, its own if it is a leaf; 0 for another kind.
abbrev pub last_of : Kind → ℕ
last_of (state place last) = last
last_of _ = 0

-- The number of cells of a memory; 0 for another kind.
abbrev pub depth_of : Kind → ℕ
depth_of (memory depth) = depth
depth_of _ = 0

-- `place` is a state's place in its group.
abbrev pub place : World → ℕ → ℕ
place w s = place_of (entity w s).kind

-- `last` is the number of the last state inside a state.
abbrev pub last : World → ℕ → ℕ
last w s = last_of (entity w s).kind

-- `x` is a state below s.
abbrev pub below : World → ℕ → ℕ → Bool
below w s x = is_state w x && (nat_lt s x && nat_le x (last w s))

-- A tag expression: a level, the level of an expression, the level at the place that an expression gives, a join.
pub data LevelTerm : Type 0 where
  fixed : ℕ → LevelTerm
  of : Term ℕ → LevelTerm
  at_place : Term ℕ → LevelTerm
  both : LevelTerm → LevelTerm → LevelTerm

-- A command that may be a check site, with the site's number, or 0 if it is none: `x := e`, `m[i] := e`, `setTag(x, n)`
-- on a register or a state, `setTag(m[j], n)`, `goto s`, and `fall`, which has the list of what it touches.
pub data Step : Type 0 where
  assign : (site register : ℕ) → Term ℕ → Step
  write : (site memory : ℕ) → (index value : Term ℕ) → Step
  retag : (site entity : ℕ) → LevelTerm → Step
  retag_cell : (site memory : ℕ) → (index : Term ℕ) → LevelTerm → Step
  go_to : (site target : ℕ) → Step
  fall_to_child : (site : ℕ) → (hang : List Bool) → Step

mutual
  -- A step alone, a step with `otherwise`, `if`, a step with `then` and `otherwise`, and `case`. All but the first have
  -- a list of what they touch: at each entity's number, whether it is touched. The labelled meaning doesn't read these
  -- lists.
  pub data Command : Type 0 where
    lone : Step → Command
    try : Step → (hang : List Bool) → (handler : Block) → Command
    if_else : (hang : List Bool) → (condition : Term ℕ) → (then_part else_part : Block) → Command
    try_then : Step → (hang : List Bool) → (accepted refused : Block) → Command
    case_of : (hang : List Bool) → (number : Term ℕ) → Arms → Command

  -- The arms of a `case`: each has the numbers of its constants and a block, and the block after `else` comes last.
  pub data Arms : Type 0 where
    last_arm : Block → Arms
    and_arm : (constants : List ℕ) → Block → Arms → Arms

  -- A list of commands in the order in which they run.
  pub data Block : Type 0 where
    end_block : Block
    command_then : Command → Block → Block

mutual
  -- A state has its number, its body and its children.
  pub data State : Type 0 where
    state_node : (number : ℕ) → (body : Block) → (children : Group) → State

  -- The states of a group, in the order of the text: the children of a state, or the top-level states.
  pub data Group : Type 0 where
    no_node : Group
    and_node : State → Group → Group

-- A program: `states` are the top-level states, and `hang` is the list of what the root's fall touches, which the
-- labelled meaning doesn't read.
pub record Program : Type 0 where
  pub world : World
  pub states : Group
  pub hang : List Bool

-- The list is true at the place `x`; past its end it is false.
abbrev pub listed : List Bool → ℕ → Bool
listed hang x = get_or hang x false
