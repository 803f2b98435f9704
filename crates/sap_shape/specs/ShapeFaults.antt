-- The faults of shape, E10 to E17: each sentence once, over the tree of a design without faults of names and widths.
use Rattle.std.specs.Prelude.{◌⊎◌, ℕ, List, [], ◌∷◌, ◌++◌, Bool, true, false, not, ◌||◌, bytes_eq}
use Rattle.std.specs.List.{list_any}
use Rattle.sap_text.specs.declared.place.Place.{Place}
use Rattle.sap_tree.specs.Syntax.{SimpleCommand, assign, write, set_tag, set_cell_tag, go_to, fall_to_child, Command, lone, try, if_else, try_then, case_of, Arms, CommandBlock, ElseBlock, CommandList, StateTree, state_node, StateList, no_state, and_state, DesignTree}
use Rattle.sap_tree.specs.Touches.{Home, home_of}
use Rattle.sap_tree.specs.Walks.{folded, folded_in_block, folded_in_else, folded_in_arms, folded_in_list}
use Rattle.sap_names.specs.declared.fault.Fault.{Fault}
use Rattle.sap_names.specs.declared.kind.Code.TheVariants.{E11, E12, E15, E16, E17}
use Rattle.sap_names.specs.NameFaults.{fault_if}
use Rattle.sap_names.specs.declared.entity.Entity.{Entity}
use Rattle.sap_names.specs.Entities.{entities_of}
use Rattle.sap_shape.specs.Closing.{closing_faults, is_transfer}
use Rattle.sap_shape.specs.Sites.{is_site, is_dynamic}
use Rattle.sap_names.specs.Fault.{StandsIn, Before}
use Rattle.sap_shape.specs.Paths.{PathFault}

-- A body as the faults of shape see it: its state, the group of that state, and the names of the states above.
pub record Body : Type 0 where
  pub home : Home
  pub group : StateList
  pub above : List (List ℕ)

-- The name of a state.
abbrev pub name_of : StateTree → List ℕ
name_of (state_node place name kind body children) = name.name

-- Some state of a list has this name.
abbrev pub is_among : StateList → List ℕ → Bool
is_among no_state name = false
is_among (and_state s rest) name = bytes_eq (name_of s) name || is_among rest name

-- The name is that of this state or of one below it.
abbrev mutual
  pub is_within : StateTree → List ℕ → Bool
  is_within (state_node place own kind body children) name = bytes_eq own.name name || is_in_group children name

  pub is_in_group : StateList → List ℕ → Bool
  is_in_group no_state name = false
  is_in_group (and_state s rest) name = is_within s name || is_in_group rest name

-- The name is on the list.
abbrev pub is_in : List (List ℕ) → List ℕ → Bool
is_in names name = list_any (λ n. bytes_eq n name) names

-- A state without children is a leaf.
abbrev pub is_leaf : StateList → Bool
is_leaf no_state = true
is_leaf (and_state s rest) = false

-- The name is that of the body's state, of an ancestor of it, or of a descendant.
abbrev pub is_comparable : Body → List ℕ → Bool
is_comparable at name = bytes_eq at.home.name name || is_in at.above name || is_in_group at.home.children name

-- The faults of shape of a simple command: E11 of a `goto` to another group, E12 of a `fall` in a leaf, E16 of a
-- `setTag` of a dynamic entity, E17 of one of a comparable state.
abbrev pub simple_shape : List Entity → Body → SimpleCommand → List Fault
simple_shape es at (assign target e) = []
simple_shape es at (write target index e) = []
simple_shape es at (set_tag place target tag) =
    fault_if (is_dynamic es target.name) E16 target.place ++ fault_if (is_comparable at target.name) E17 target.place
simple_shape es at (set_cell_tag place target index tag) = fault_if (is_dynamic es target.name) E16 target.place
simple_shape es at (go_to place target) = fault_if (not (is_among at.group target.name)) E11 target.place
simple_shape es at (fall_to_child place) = fault_if (is_leaf at.home.children) E12 place

-- The faults of shape of the simple command before a `then`, and E15 at the `then` if it can't be refused. A transfer
-- has no E15 there, but an E10.
abbrev pub then_shape : List Entity → Body → SimpleCommand → Place → List Fault
then_shape es at k place =
    simple_shape es at k ++ fault_if (not (is_transfer k || is_site es at.home.kind at.home.children k)) E15 place

-- The faults E11, E12 and E15 to E17 of a command, where its blocks have `below`. E15 is at an `otherwise` whose
-- handler can never run.
abbrev pub own_shape : List Entity → Body → Command → (below : List Fault) → List Fault
own_shape es at (lone k) below = simple_shape es at k
own_shape es at (try k place handler) below =
    simple_shape es at k ++ fault_if (not (is_site es at.home.kind at.home.children k)) E15 place ++ below
own_shape es at (if_else place condition then_block else_block) below = below
own_shape es at (try_then k place accepted refused) below = then_shape es at k place ++ below
own_shape es at (case_of place e arms) below = below

-- The faults E11, E12 and E15 to E17 of a command and of all commands in it.
abbrev pub command_shape : List Entity → Body → Command → List Fault
command_shape es at c = folded [] ◌++◌ (own_shape es at) c

-- The faults E11, E12 and E15 to E17 of all commands of a block.
abbrev pub block_shape : List Entity → Body → CommandBlock → List Fault
block_shape es at block = folded_in_block [] ◌++◌ (own_shape es at) block

-- The faults E11, E12 and E15 to E17 of all commands of an `else`, if there is one.
abbrev pub else_shape : List Entity → Body → ElseBlock → List Fault
else_shape es at other = folded_in_else [] ◌++◌ (own_shape es at) other

-- The faults E11, E12 and E15 to E17 of all commands of the arms of a `case`.
abbrev pub arms_shape : List Entity → Body → Arms → List Fault
arms_shape es at arms = folded_in_arms [] ◌++◌ (own_shape es at) arms

-- The faults E11, E12 and E15 to E17 of all commands of a list.
abbrev pub list_shape : List Entity → Body → CommandList → List Fault
list_shape es at list = folded_in_list [] ◌++◌ (own_shape es at) list

-- The faults of shape, without E14, of a state and of all states below it, and of a list of states. `group` is the
-- group that they are of, and `above` has the names of the states above.
abbrev mutual
  pub state_shape : List Entity → (group : StateList) → (above : List (List ℕ)) → StateTree → List Fault
  state_shape es group above (state_node place name kind body children) =
      closing_faults body
      ++ block_shape es (record {
        home = home_of (state_node place name kind body children);
        group = group;
        above = above;
      }) body
      ++ states_shape es children (name.name ∷ above) children

  pub states_shape : List Entity → (group : StateList) → (above : List (List ℕ)) → StateList → List Fault
  states_shape es group above no_state = []
  states_shape es group above (and_state s rest) = state_shape es group above s ++ states_shape es group above rest

-- A fault of shape of a design: one that its states have, or an E14.
abbrev pub IsShapeFault : DesignTree → Fault → Type 0
IsShapeFault d f = StandsIn f (states_shape (entities_of d) d.states [] d.states) ⊎ PathFault d f

-- No fault of shape stands anywhere.
abbrev pub HasShape : DesignTree → Type 0
HasShape d = (f : Fault) → IsShapeFault d f → ⊥

-- It is a fault of shape, and comes before all others.
abbrev pub IsFirstShapeFault : DesignTree → Fault → Type 0
IsFirstShapeFault d f = IsShapeFault d f × ((other : Fault) → IsShapeFault d other → Before f other)
