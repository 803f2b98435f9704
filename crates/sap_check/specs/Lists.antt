-- The sites and points of lists of commands and of states, as they are told.
use Rattle.std.specs.Prelude.{List, [], ◌∷◌, ◌++◌, map}
use Rattle.sap_tree.specs.declared.syntax.Arm.{Arm}
use Rattle.sap_tree.specs.declared.syntax.Cmd.{Cmd}
use Rattle.sap_tree.specs.declared.syntax.State.{State}
use Rattle.sap_tree.specs.Points as points
use Rattle.sap_tree.specs.Trees.{arm_block_of, commands_of, states_of}
use Rattle.sap_names.specs.declared.entity.Entity.{Entity}
use Rattle.sap_check.specs.declared.body.Body.{Body}
use Rattle.sap_check.specs.declared.point.Point.{Point}
use Rattle.sap_check.specs.declared.site.Site.{Site}
use Rattle.sap_check.specs.Points.{words_of, words_at}
use Rattle.sap_check.specs.Sites.{site_of}
use Rattle.sap_shape.specs.Lists as shape_lists
use Rattle.sap_shape.specs.Sites.{Surroundings}

-- What the body of a state knows of its design and of its state.
abbrev pub surroundings_of : List Entity → Body → Surroundings
surroundings_of es b = record {
  entities = es;
  home = record { name = b.name.now; kind = b.kind.now; children = states_of b.children.now };
}

-- The check sites of a list of commands, as they are told.
unfoldable pub list_sites : Surroundings → List Cmd → List Site
list_sites h cs = map site_of (shape_lists.list_sites h cs)

-- The check sites of a group of states, as they are told.
unfoldable pub group_sites : List Entity → List State → List Site
group_sites es states = map site_of (shape_lists.group_sites es states)

-- The points of stored commands.
unfoldable pub list_points : List Cmd → List Point
list_points cs = words_of (points.list_points (commands_of cs))

-- The points of stored states.
unfoldable pub group_points : List State → List Point
group_points states = words_at (points.states_points (states_of states))

-- the arms of a `case`, without the block after `else`

-- The sites of stored arms.
unfoldable pub arms_sites : Surroundings → List Arm → List Site
arms_sites h arms = map site_of (shape_lists.arms_sites h arms)

-- The points of stored arms.
unfoldable pub arms_points : List Arm → List Point
arms_points [] = []
arms_points (arm ∷ arms) = words_of (points.block_points (arm_block_of arm)) ++ arms_points arms
