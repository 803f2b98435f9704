-- What hangs on each command of a design that has a list of it: by name; as the list itself; and as what the command
-- touches in the tree.
use Rattle.std.specs.Prelude.{ℕ, Bool, true, false, List, [], ◌∷◌, ◌++◌, map}
use Rattle.sap_tree.specs.declared.syntax.Decl.{Decl}
use Rattle.sap_tree.specs.Syntax.{DesignTree}
use Rattle.sap_tree.specs.Points as tree_points
use Rattle.sap_tree.specs.Touches as tree
use Rattle.sap_lattice.specs.Levels.{Levels}
use Rattle.sap_names.specs.declared.entity.Entity.{Entity}
use Rattle.sap_names.specs.Entities.{entities_of}
use Rattle.sap_meaning.specs.Program.{Step, assign, write, retag, retag_cell, go_to, fall_to_child, Command, lone, try, if_else, try_then, case_of, Arms, Block, State, Group}
use Rattle.sap_meaning.specs.Walks.{folded, folded_in_arms, folded_in_block, body_of, gathered_from, gathered_from_group}
use Rattle.sap_resolved.specs.Fill.{program_of}

-- An `if`, an `otherwise`, a `fall`, a `then` or a `case`, with the names of what hangs on it.
pub data Point : Type 0 where
  at_if : List (List ℕ) → Point
  at_otherwise : List (List ℕ) → Point
  at_fall : List (List ℕ) → Point
  at_then : List (List ℕ) → Point
  at_case : List (List ℕ) → Point

-- The names whose entry is true, in the order of declaration.
abbrev pub hanging : (names : List (List ℕ)) → List Bool → List (List ℕ)
hanging [] hang = []
hanging (n ∷ ns) [] = []
hanging (n ∷ ns) (true ∷ hang) = n ∷ hanging ns hang
hanging (n ∷ ns) (false ∷ hang) = hanging ns hang

-- The points of a step with the names of what they touch: only a `fall` is one.
abbrev pub step_points : List (List ℕ) → Step → List Point
step_points names (assign site x e) = []
step_points names (write site m i e) = []
step_points names (retag site x n) = []
step_points names (retag_cell site m j n) = []
step_points names (go_to site target) = []
step_points names (fall_to_child site hang) = at_fall (hanging names hang) ∷ []

-- The points of a command in the order of their words: that of its step, its own, and those of its blocks.
abbrev pub own_points : List (List ℕ) → Command → (below : List Point) → List Point
own_points names (lone k) below = step_points names k
own_points names (try k hang h) below = step_points names k ++ at_otherwise (hanging names hang) ∷ below
own_points names (if_else hang e a b) below = at_if (hanging names hang) ∷ below
own_points names (try_then k hang a b) below = step_points names k ++ at_then (hanging names hang) ∷ below
own_points names (case_of hang e arms) below = at_case (hanging names hang) ∷ below

-- The points of a command and of all commands in it, with the names of what they touch.
abbrev pub points : List (List ℕ) → Command → List Point
points names c = folded [] ◌++◌ (own_points names) c

-- The points of the arms of a `case`, with the names of what they touch.
abbrev pub arms_points : List (List ℕ) → Arms → List Point
arms_points names arms = folded_in_arms [] ◌++◌ (own_points names) arms

-- The points of a block, with the names of what they touch.
abbrev pub block_points : List (List ℕ) → Block → List Point
block_points names b = folded_in_block [] ◌++◌ (own_points names) b

-- The points in the bodies of a state and of its descendants, with the names of what they touch.
abbrev pub state_points : List (List ℕ) → State → List Point
state_points names t = gathered_from [] ◌++◌ (λ s. block_points names (body_of s)) t

-- The points in the bodies of a group's states and of their descendants, with the names of what they touch.
abbrev pub group_points : List (List ℕ) → Group → List Point
group_points names g = gathered_from_group [] ◌++◌ (λ s. block_points names (body_of s)) g

-- The names of a design's entities, by their numbers.
abbrev pub names_of : DesignTree → List (List ℕ)
names_of d = map (λ e. e.name.name) (entities_of d)

-- The points of a design in the order of the text, each with the names of what its command touches.
abbrev pub hang_table : Levels → DesignTree → List Point
hang_table ls d = group_points (names_of d) (program_of ls d).states

-- The names of what the root's fall touches.
abbrev pub hang_at_root : Levels → DesignTree → List (List ℕ)
hang_at_root ls d = hanging (names_of d) (program_of ls d).hang

-- The list that a step stores: a `fall` has one, and no other step has.
abbrev pub step_rows : Step → List (List Bool)
step_rows (assign site x e) = []
step_rows (write site m i e) = []
step_rows (retag site x n) = []
step_rows (retag_cell site m j n) = []
step_rows (go_to site target) = []
step_rows (fall_to_child site hang) = hang ∷ []

-- The lists that a command stores itself, before those that stand in its blocks.
abbrev pub own_rows : Command → (below : List (List Bool)) → List (List Bool)
own_rows (lone k) below = step_rows k
own_rows (try k hang h) below = step_rows k ++ hang ∷ below
own_rows (if_else hang e a b) below = hang ∷ below
own_rows (try_then k hang a b) below = step_rows k ++ hang ∷ below
own_rows (case_of hang e arms) below = hang ∷ below

-- The lists that a command and all commands in it store, in order.
abbrev pub rows : Command → List (List Bool)
rows c = folded [] ◌++◌ own_rows c

-- The lists that the arms of a `case` store, in order.
abbrev pub arms_rows : Arms → List (List Bool)
arms_rows arms = folded_in_arms [] ◌++◌ own_rows arms

-- The lists that a block stores, in order.
abbrev pub block_rows : Block → List (List Bool)
block_rows b = folded_in_block [] ◌++◌ own_rows b

-- The lists that the bodies of a state and of its descendants store, in order.
abbrev pub state_rows : State → List (List Bool)
state_rows t = gathered_from [] ◌++◌ (λ s. block_rows (body_of s)) t

-- The lists that the bodies of a group's states and of their descendants store, in order.
abbrev pub group_rows : Group → List (List Bool)
group_rows g = gathered_from_group [] ◌++◌ (λ s. block_rows (body_of s)) g

-- For each entity, in the order of declaration, whether its name passes a test.
abbrev pub row_of : List Entity → (List ℕ → Bool) → List Bool
row_of es test = map (λ e. test e.name.name) es

-- Which entities the command at a point of the tree touches, as a list over the entities' numbers.
abbrev pub point_row : List Decl → List Entity → tree_points.Point → List Bool
point_row ds es p = row_of es (tree.touches ds p.home p.command)

-- For each point of a design, in the order of the text, which entities the command there touches.
abbrev pub rows_of : DesignTree → List (List Bool)
rows_of d = map (point_row d.declarations (entities_of d)) (tree_points.points_of d)
