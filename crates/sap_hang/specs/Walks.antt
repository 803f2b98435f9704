-- What a walk has at each part of a design: sets of numbers of entities, each for a test of names. An entity has the
-- number of the first of its name.
use Rattle.std.specs.Prelude.{◌≡◌, ℕ, Bool, ◌||◌, ◌&&◌, List, ◌++◌, Some, map, reverse}
use Rattle.sap_tree.specs.declared.syntax.Decl.{Decl}
use Rattle.sap_tree.specs.declared.syntax.State.{State}
use Rattle.sap_tree.specs.Points.{Point}
use Rattle.sap_tree.specs.Points as points
use Rattle.sap_tree.specs.Syntax.{Command, CommandList, ElseBlock, Arms}
use Rattle.sap_tree.specs.Touches.{Home, is_dynamic_store, fall_touches}
use Rattle.sap_tree.specs.Touches as tree
use Rattle.sap_tree.specs.Trees.{states_of}
use Rattle.sap_names.specs.declared.entity.Entity.{Entity}
use Rattle.sap_names.specs.Entities.{number_of, entity_number}
use Rattle.sap_hang.specs.Hang.{Rows}
use Rattle.sap_hang.specs.Rows.{rows_of}
use Rattle.sap_hang.specs.Sets.{has}
use Rattle.sap_hang.specs.declared.set.Set.{Set}
use Rattle.sap_hang.specs.declared.standing.Standing.{Standing}
use Rattle.sap_hang.specs.declared.standing.Walk.{Walk}

-- A test of names.
abbrev pub Test : Type 0
Test = List ℕ → Bool

-- Of the names of entities, the set has those that pass the test.
pub record Stands (es : List Entity) (f : Test) (s : Set) : Type 0 where
  pub stands : (name : List ℕ) (x : ℕ) → number_of es name ≡ Some x → has s x ≡ f name

-- Of the names of entities, the new set has those of the old one and those that pass the test.
pub record Adds (es : List Entity) (f : Test) (old new : Set) : Type 0 where
  pub adds : (name : List ℕ) (x : ℕ) → number_of es name ≡ Some x → has new x ≡ (f name || has old x)

-- For each entity the number of the first of its name.
abbrev pub firsts_of : List Entity → List ℕ
firsts_of es = map (λ (e : Entity). entity_number es e.name.name) es

-- The table of rows that were found, the last of the text first; the table has them in the order of the text.
abbrev pub table_of : List Entity → List Set → Rows
table_of es rows = rows_of (firsts_of es) (reverse rows)

-- Which entities pass a test.
abbrev pub passing : List Entity → Test → List Bool
passing es f = map (λ (e : Entity). f e.name.name) es

-- For each of these commands of one body, which entities it touches.
abbrev pub touched_at : List Entity → List Decl → Home → List Command → Rows
touched_at es ds h cs = map (λ (c : Command). passing es (λ x. tree.touches ds h c x)) cs

-- For each point, which entities the command there touches.
abbrev pub touched_on : List Entity → List Decl → List Point → Rows
touched_on es ds ps = map (λ (p : Point). passing es (λ x. tree.touches ds p.home p.command x)) ps

-- The walk's store says of each name whether it is declared as a dynamic register or memory.
abbrev pub Knows : Walk → Type 0
Knows w = Stands w.names.now (λ x. is_dynamic_store w.declarations.now x) w.stores

-- The entities of the design that is walked.
abbrev pub entities_in : Standing → List Entity
entities_in s = s.walk.now.names.now

-- The declarations of the design that is walked.
abbrev pub declared_in : Standing → List Decl
declared_in s = s.walk.now.declarations.now

-- Where the walk stands: the state, its kind and its children.
abbrev pub home_of : Standing → Home
home_of s = record { name = s.state.now; kind = s.kind.now; children = states_of s.children.now }

-- The set of the walk has the dynamic registers and memories, and the set of the fall has what a `fall` in this state
-- touches.
abbrev pub Sees : Standing → Type 0
Sees s = Knows s.walk.now × Stands (entities_in s)
    (λ x. fall_touches (declared_in s) (states_of s.children.now) x) s.falls.now

-- A part of a body: its points, what it touches and what it assigns.
pub record Part : Type 0 where
  pub points : List Command
  pub touches : Test
  pub assigns : Test

-- What a command brings: its points, the names that it touches and the names that it assigns.
abbrev pub command_part : Standing → Command → Part
command_part s c = record {
  points = points.command_points c;
  touches = λ x. tree.touches (declared_in s) (home_of s) c x;
  assigns = λ x. tree.assigns c x;
}

-- What an `else` part brings: its points, the names that it touches and the names that it assigns.
abbrev pub else_part : Standing → ElseBlock → Part
else_part s b = record {
  points = points.else_points b;
  touches = λ x. tree.else_touches (declared_in s) (home_of s) b x;
  assigns = λ x. tree.else_assigns b x;
}

-- What the arms of a `case` bring: their points, the names that they touch and the names that they assign.
abbrev pub arms_part : Standing → Arms → Part
arms_part s arms = record {
  points = points.arms_points arms;
  touches = λ x. tree.arms_touch (declared_in s) (home_of s) arms x;
  assigns = λ x. tree.arms_assign arms x;
}

-- What a list of commands brings: its points, the names that it touches and the names that it assigns.
abbrev pub list_part : Standing → CommandList → Part
list_part s cs = record {
  points = points.list_points cs;
  touches = λ x. tree.list_touches (declared_in s) (home_of s) cs x;
  assigns = λ x. tree.list_assigns cs x;
}

-- Registers and memories that are dynamic and pass the test.
abbrev pub stored : List Decl → Test → Test
stored ds f = λ x. is_dynamic_store ds x && f x

-- A part was walked: the rows of its points, and what it assigns and touches.
pub record Walked (s : Standing) (p : Part) (old : List Set) (a t : Set) (new : List Set) (b u : Set) : Type 0 where
  pub rows : table_of (entities_in s) new ≡ touched_at (entities_in s) (declared_in s) (home_of s)
      p.points ++ table_of (entities_in s) old
  pub assigned : Adds (entities_in s) (stored (declared_in s) p.assigns) a b
  pub touched : Adds (entities_in s) p.touches t u

-- States were walked: the rows of their points, which registers and memories they or their descendants assign, and
-- which of them are dynamic.
pub record Passed (es : List Entity) (ds : List Decl) (states : List State) (old new : List Set)
    (a c : Set) : Type 0 where
  pub rows : table_of es new ≡ touched_on es ds (points.states_points (states_of states)) ++ table_of es old
  pub assigned : Stands es (stored ds (λ x. tree.states_assign (states_of states) x)) a
  pub children : Stands es (λ x. tree.is_dynamic_child (states_of states) x) c
