-- What stays while a design runs: its entities, by number in the order of the text, over the levels of a lattice.
use Rattle.std.specs.Prelude.{ℕ, ◌+◌, List, [], ◌∷◌, ◌++◌, length, Option, Some, None, unwrap_or, true}
use Rattle.sap_tree.specs.declared.name.Mention.{Mention}
use Rattle.sap_tree.specs.declared.syntax.Numeral.{Numeral}
use Rattle.sap_tree.specs.declared.syntax.Under.{Under}
use Rattle.sap_tree.specs.declared.syntax.Kind.{Kind}
use Rattle.sap_tree.specs.declared.syntax.Kind.TheVariants.{Dynamic, Enforced}
use Rattle.sap_tree.specs.declared.syntax.Decl.{Decl}
use Rattle.sap_tree.specs.declared.syntax.Decl.TheVariants.{Input, Register, Memory}
use Rattle.sap_tree.specs.Syntax.{StateTree, state_node, StateList, no_state, and_state, DesignTree}
pub use Rattle.sap_tree.specs.Touches.{is_dynamic_kind}
use Rattle.sap_lattice.specs.Levels.{Levels, level_named, order_of}
use Rattle.sap_meaning.specs.Program.{World, Entity}
use Rattle.sap_meaning.specs.Program as program

-- `level_number` is the number of the level of this name, or the number of levels if there is none.
abbrev pub level_number : Levels → Mention → ℕ
level_number ls m = unwrap_or (level_named ls.names m.name) (length ls.names)

-- The level that a kind declares; a dynamic entity starts at bottom.
abbrev pub declared_level : Levels → Kind → ℕ
declared_level ls (Dynamic place) = (order_of ls).bottom
declared_level ls (Enforced level under) = level_number ls level

-- The level of an authority; an entity without one has bottom.
abbrev pub authority_level : Levels → Option Under → ℕ
authority_level ls None = (order_of ls).bottom
authority_level ls (Some under) = level_number ls under.level

-- The authority of an entity of a kind; the bottom if it is dynamic or if no authority is written.
abbrev pub authority_of : Levels → Kind → ℕ
authority_of ls (Dynamic place) = (order_of ls).bottom
authority_of ls (Enforced level under) = authority_level ls under

-- A register starts at its written number, else at 0.
abbrev pub initial_of : Option Numeral → ℕ
initial_of None = 0
initial_of (Some n) = n.value

-- The entity that a declaration declares.
abbrev pub declared : Levels → Decl → Entity
declared ls (Input place name width) = record {
  kind = program.input;
  width = width.value;
  dynamic = true;
  declared = (order_of ls).bottom;
  authority = (order_of ls).bottom;
  initial = 0;
}
declared ls (Register place name width kind start) = record {
  kind = program.register;
  width = width.value;
  dynamic = is_dynamic_kind kind;
  declared = declared_level ls kind;
  authority = authority_of ls kind;
  initial = initial_of start;
}
declared ls (Memory place name width depth kind) = record {
  kind = program.memory depth.value;
  width = width.value;
  dynamic = is_dynamic_kind kind;
  declared = declared_level ls kind;
  authority = authority_of ls kind;
  initial = 0;
}

-- The entities of the declarations, in order.
abbrev pub all_declared : Levels → List Decl → List Entity
all_declared ls [] = []
all_declared ls (d ∷ ds) = declared ls d ∷ all_declared ls ds

-- So many states are in a state, itself included, and in a group.
abbrev mutual
  pub states_in : StateTree → ℕ
  states_in (state_node place name kind body children) = 1 + states_below children

  pub states_below : StateList → ℕ
  states_below no_state = 0
  states_below (and_state s rest) = states_in s + states_below rest

-- `group_length` is the length of a group.
abbrev pub group_length : StateList → ℕ
group_length no_state = 0
group_length (and_state s rest) = 1 + group_length rest

-- The states of a group, the first of them with this place in the group and this number; a state stands before its
-- children.
abbrev mutual
  pub state_entities : Levels → (place number : ℕ) → StateTree → List Entity
  state_entities ls n x (state_node place name kind body children) =
      let e : Entity = record {
        kind = program.state n (x + states_below children);
        width = 0;
        dynamic = is_dynamic_kind kind;
        declared = declared_level ls kind;
        authority = authority_of ls kind;
        initial = 0;
      } in
      e ∷ group_entities ls 0 (x + 1) children

  pub group_entities : Levels → (place number : ℕ) → StateList → List Entity
  group_entities ls n x no_state = []
  group_entities ls n x (and_state s rest) = state_entities ls n x s ++ group_entities ls (n + 1) (x + states_in s) rest

-- Each state has this number of children, in the order of the text.
abbrev mutual
  pub state_children : StateTree → List ℕ
  state_children (state_node place name kind body children) = group_length children ∷ group_children children

  pub group_children : StateList → List ℕ
  group_children no_state = []
  group_children (and_state s rest) = state_children s ++ group_children rest

-- Inputs, registers and memories have no children.
abbrev pub no_children : List Decl → List ℕ
no_children [] = []
no_children (d ∷ ds) = 0 ∷ no_children ds

-- What stays while a design runs over a lattice.
abbrev pub world_of : Levels → DesignTree → World
world_of ls d = record {
  order = order_of ls;
  entities = all_declared ls d.declarations ++ group_entities ls 0 (length d.declarations) d.states;
  children = no_children d.declarations ++ group_children d.states ++ group_length d.states ∷ [];
}
