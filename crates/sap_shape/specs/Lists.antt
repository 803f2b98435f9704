-- The faults of shape, and the check sites, of lists of commands and of states.
use Rattle.std.specs.Prelude.{ℕ, List, [], ◌∷◌, ◌++◌, Bool, false, ◌||◌}
use Rattle.sap_text.specs.declared.place.Place.{Place}
use Rattle.sap_tree.specs.declared.syntax.Arm.{Arm}
use Rattle.sap_tree.specs.declared.syntax.Cmd.{Cmd}
use Rattle.sap_tree.specs.declared.syntax.State.{State}
use Rattle.sap_tree.specs.Trees.{arm_block_of, commands_of, states_of}
use Rattle.sap_names.specs.declared.fault.Fault.{Fault}
use Rattle.sap_names.specs.declared.entity.Entity.{Entity}
use Rattle.sap_names.specs.Entities.{entities_of}
use Rattle.sap_tree.specs.Syntax.{DesignTree}
use Rattle.sap_shape.specs.Closing as closing
use Rattle.sap_shape.specs.Walk as paths
use Rattle.sap_shape.specs.Walk.{Written, Part, fresh, branch}
use Rattle.sap_shape.specs.ShapeFaults as shape
use Rattle.sap_shape.specs.Sites as sites
use Rattle.sap_shape.specs.Sites.{Surroundings, CheckSite}
use Rattle.sap_shape.specs.ShapeFaults.{Body, is_in}

-- The faults E10 inside the commands of a list, apart from those of how it ends.
unfoldable pub open_list : List Cmd → List Fault
open_list cs = closing.open_list_faults (commands_of cs)

-- The faults E10 of how a list of commands ends.
unfoldable pub closing_list : List Cmd → (after : Place) → List Fault
closing_list cs after = closing.closing_list_faults (commands_of cs) after

-- The other faults of shape of the commands of a list.
unfoldable pub list_shape : List Entity → Body → List Cmd → List Fault
list_shape es at cs = shape.list_shape es at (commands_of cs)

-- The other faults of shape of these states of a group.
unfoldable pub group_shape : List Entity → (group : List State) → (above : List (List ℕ)) → List State → List Fault
group_shape es group above states = shape.states_shape es (states_of group) above (states_of states)

-- The memories of these names.
unfoldable pub written_in : List (List ℕ) → Written
written_in names m = is_in names m

-- What the search for E14 finds in the commands of a list.
unfoldable pub found_in_list : List Cmd → Part
found_in_list cs = paths.found_in_list (commands_of cs)

-- Some command of a list falls.
unfoldable pub falls_list : List Cmd → Bool
falls_list cs = paths.falls_list (commands_of cs)

-- The faults E14 in the bodies of these states.
unfoldable pub second_states : List State → Written → List Fault
second_states states p = paths.second_states (states_of states) p

-- the arms of a `case`, without the block after `else`

-- The faults E10 inside the blocks of arms, apart from those of how they end.
unfoldable pub open_arms : List Arm → List Fault
open_arms [] = []
open_arms (arm ∷ arms) = closing.open_block_faults (arm_block_of arm) ++ open_arms arms

-- The faults E10 of how the blocks of arms end.
unfoldable pub closing_arms : List Arm → List Fault
closing_arms [] = []
closing_arms (arm ∷ arms) = closing.closing_faults (arm_block_of arm) ++ closing_arms arms

-- The other faults of shape of the blocks of arms.
unfoldable pub arms_shape : List Entity → Body → List Arm → List Fault
arms_shape es at [] = []
arms_shape es at (arm ∷ arms) = shape.block_shape es at (arm_block_of arm) ++ arms_shape es at arms

-- A part through which no path goes.
abbrev pub no_path : Part
no_path p = record { past = fresh; entering = fresh; again = [] }

-- What the search for E14 finds in the blocks of arms.
unfoldable pub found_in_arms : List Arm → Part
found_in_arms [] = no_path
found_in_arms (arm ∷ arms) = branch (paths.found_in_block (arm_block_of arm)) (found_in_arms arms)

-- Some command in the blocks of arms falls.
unfoldable pub falls_arms : List Arm → Bool
falls_arms [] = false
falls_arms (arm ∷ arms) = paths.falls_block (arm_block_of arm) || falls_arms arms

-- The check sites of the commands of a list.
abbrev pub list_sites : Surroundings → List Cmd → List CheckSite
list_sites h cs = sites.list_sites h (commands_of cs)

-- The check sites of these states of a group.
abbrev pub group_sites : List Entity → List State → List CheckSite
group_sites es states = sites.states_sites es (states_of states)

-- The check sites of the blocks of arms.
unfoldable pub arms_sites : Surroundings → List Arm → List CheckSite
arms_sites h [] = []
arms_sites h (arm ∷ arms) = sites.block_sites h (arm_block_of arm) ++ arms_sites h arms

-- All faults of shape that are found in a design.
abbrev pub shape_faults : DesignTree → List Fault
shape_faults d = shape.states_shape (entities_of d) d.states [] d.states ++ paths.second_states d.states paths.fresh
