-- What is made of the commands and states that code has in lists.
use Rattle.std.specs.Prelude.{ℕ, ◌+◌, List, [], ◌∷◌, map, length}
use Rattle.sap_tree.specs.declared.syntax.Arm.{Arm}
use Rattle.sap_tree.specs.declared.syntax.Cmd.{Cmd}
use Rattle.sap_tree.specs.declared.syntax.Expr.{Expr}
use Rattle.sap_tree.specs.declared.syntax.State.{State}
use Rattle.sap_tree.specs.Trees.{arm_block_of, commands_of, constants_of, expressions_of, states_of}
use Rattle.sap_names.specs.declared.entity.Entity.{Entity}
use Rattle.sap_lattice.specs.Levels.{Levels}
use Rattle.sap_meaning.specs.Program.{Arms, last_arm, Block, Group}
use Rattle.sap_meaning.specs.Program as program
use Rattle.sap_names.specs.Entities as names
use Rattle.sap_program.specs.declared.program.Entity as code
use Rattle.sap_resolved.specs.Resolve as resolve
use Rattle.sap_shape.specs.Lists as shape_lists
use Rattle.sap_shape.specs.Sites as sites
use Rattle.sap_shape.specs.Sites.{Surroundings}
use Rattle.sap_resolved.specs.Worlds as worlds

-- Where the next site has the number k.
unfoldable pub list_from : Levels → Surroundings → (k : ℕ) → List Cmd → Block
list_from ls h k cs = resolve.list_of ls h k (commands_of cs)

-- How many check sites they have.
unfoldable pub list_site_count : Surroundings → List Cmd → ℕ
list_site_count h cs = length (shape_lists.list_sites h cs)

-- With this block for no arm.
unfoldable pub arms_from : Levels → Surroundings → (k : ℕ) → List Arm → Block → Arms
arms_from ls h k [] last = last_arm last
arms_from ls h k (arm ∷ arms) last =
    program.and_arm (resolve.numbers_of (constants_of arm)) (resolve.block_of ls h k (arm_block_of arm))
    (arms_from ls h (k + length (sites.block_sites h (arm_block_of arm))) arms last)

-- How many check sites the blocks of arms have.
unfoldable pub arms_site_count : Surroundings → List Arm → ℕ
arms_site_count h arms = length (shape_lists.arms_sites h arms)

-- The numbers of a list of constants.
unfoldable pub numbers_of : List Expr → List ℕ
numbers_of es = resolve.numbers_of (expressions_of es)

-- And the next state the number x.
unfoldable pub group_from : Levels → List Entity → (k x : ℕ) → List State → Group
group_from ls es k x ss = resolve.group_of ls es k x (states_of ss)

-- How many check sites a group of states has.
unfoldable pub group_site_count : List Entity → List State → ℕ
group_site_count es ss = length (shape_lists.group_sites es ss)

-- How many states a group has, with their descendants.
unfoldable pub states_below : List State → ℕ
states_below ss = worlds.states_below (states_of ss)

-- The entities of states of which the first has this place in its group and this number; their names; and how many
-- children they have.
unfoldable pub group_entities : Levels → (place number : ℕ) → List State → List program.Entity
group_entities ls n x ss = worlds.group_entities ls n x (states_of ss)

-- The names of entities.
abbrev pub names_of : List Entity → List (List ℕ)
names_of es = map (λ e. e.name.name) es

-- The names of these entities.
abbrev pub own_names : List code.Entity → List (List ℕ)
own_names es = map (λ e. e.name) es

-- The names of a group's states and of their descendants.
unfoldable pub group_names : List State → List (List ℕ)
group_names ss = names_of (names.group_entities (states_of ss))

-- How many children each state of a group and each descendant has.
unfoldable pub group_children : List State → List ℕ
group_children ss = worlds.group_children (states_of ss)
