-- The points of a design: each `if`, `otherwise`, `fall`, `then` and `case`, in the order of these words. The
-- `otherwise` of a `then` is none. Each is the command that it is, and the state in whose body it stands.
use Rattle.std.specs.Prelude.{List, [], ◌∷◌, ◌++◌, map}
use Rattle.sap_tree.specs.Syntax.{SimpleCommand, assign, write, set_tag, set_cell_tag, go_to, fall_to_child, Command, lone, try, if_else, try_then, case_of, Arms, CommandBlock, ElseBlock, CommandList, StateTree, StateList, DesignTree}
use Rattle.sap_tree.specs.Touches.{Home, home_of}
use Rattle.sap_tree.specs.Walks.{folded, folded_in_block, folded_in_else, folded_in_arms, folded_in_list, body_of, gathered_from, gathered_from_list}

-- those of a body, as commands

-- The points of a step by itself: a `fall` is one, and no other step is.
abbrev pub simple_points : SimpleCommand → List Command
simple_points (assign target e) = []
simple_points (write target index e) = []
simple_points (set_tag place target tag) = []
simple_points (set_cell_tag place target index tag) = []
simple_points (go_to place target) = []
simple_points (fall_to_child place) = lone (fall_to_child place) ∷ []

-- An `otherwise` is the whole command, with its handler.
abbrev pub own_points : Command → (below : List Command) → List Command
own_points (lone k) below = simple_points k
own_points (try k place handler) below = simple_points k ++ try k place handler ∷ below
own_points (if_else place condition then_block else_block) below = if_else place condition then_block else_block ∷ below
own_points (try_then k place accepted refused) below = simple_points k ++ try_then k place accepted refused ∷ below
own_points (case_of place e arms) below = case_of place e arms ∷ below

-- The points of a command and of all commands in it, in the order of the text.
abbrev pub command_points : Command → List Command
command_points c = folded [] ◌++◌ own_points c

-- The points of all commands of a block.
abbrev pub block_points : CommandBlock → List Command
block_points block = folded_in_block [] ◌++◌ own_points block

-- The points of all commands of an `else`, if there is one.
abbrev pub else_points : ElseBlock → List Command
else_points other = folded_in_else [] ◌++◌ own_points other

-- The points of all commands of the arms of a `case`.
abbrev pub arms_points : Arms → List Command
arms_points arms = folded_in_arms [] ◌++◌ own_points arms

-- The points of all commands of a list.
abbrev pub list_points : CommandList → List Command
list_points list = folded_in_list [] ◌++◌ own_points list

-- A point is a command, together with the state in whose body it appears.
pub record Point : Type 0 where
  pub home : Home
  pub command : Command

-- The point of a command in the body of a state.
abbrev pub point : Home → Command → Point
point h c = record { home = h; command = c }

-- Those of a body stand before those of the children.
abbrev pub body_points : StateTree → List Point
body_points s = map (point (home_of s)) (block_points (body_of s))

-- The points of a state's body and of its descendants' bodies, in the order of the text.
abbrev pub state_points : StateTree → List Point
state_points s = gathered_from [] ◌++◌ body_points s

-- The points of the bodies of these states and of their descendants.
abbrev pub states_points : StateList → List Point
states_points states = gathered_from_list [] ◌++◌ body_points states

-- The points of a design, in the order of the text.
abbrev pub points_of : DesignTree → List Point
points_of d = states_points d.states
