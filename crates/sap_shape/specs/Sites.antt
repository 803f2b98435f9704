-- Check sites: the commands that may be refused, in the order of their first tokens. One walk over the tree finds
-- them: the check, the report and the trace tell of its list (`sap_check`, `Sites`), and the commands of a design's
-- program are numbered by its length (`sap_resolved`, `Resolve`).
use Rattle.std.specs.Prelude.{List, [], ◌∷◌, ◌++◌, Bool, true, false, not, ◌||◌, ℕ, if◌then◌else◌}
use Rattle.sap_tree.specs.declared.syntax.Kind.{Kind}
use Rattle.sap_tree.specs.Syntax.{SimpleCommand, assign, write, set_tag, set_cell_tag, go_to, fall_to_child, Command, Arms, CommandBlock, ElseBlock, CommandList, StateTree, state_node, StateList, no_state, and_state, DesignTree}
use Rattle.sap_tree.specs.Walks.{gathered, gathered_in_block, gathered_in_else, gathered_in_arms, gathered_in_list, gathered_from, gathered_from_list, body_of}
use Rattle.sap_tree.specs.Touches.{Home, home_of, is_dynamic_kind}
use Rattle.sap_names.specs.declared.entity.Entity.{Entity}
use Rattle.sap_names.specs.Entities.{find, enforced_of, dynamic_of, entities_of}

-- The entity of this name is enforced.
abbrev pub is_enforced : List Entity → List ℕ → Bool
is_enforced es name = enforced_of (find es name)

-- The entity of this name is dynamic.
abbrev pub is_dynamic : List Entity → List ℕ → Bool
is_dynamic es name = dynamic_of (find es name)

-- `kind_of_state` is the kind of a state.
abbrev pub kind_of_state : StateTree → Kind
kind_of_state (state_node place name kind body children) = kind

-- Some state of a list is enforced.
abbrev pub any_enforced : StateList → Bool
any_enforced no_state = false
any_enforced (and_state s rest) = not (is_dynamic_kind (kind_of_state s)) || any_enforced rest

-- The command is a check site in the body of a state of this kind with these children.
abbrev pub is_site : List Entity → Kind → StateList → SimpleCommand → Bool
is_site es here children (assign target e) = is_enforced es target.name
is_site es here children (write target index e) = is_enforced es target.name
is_site es here children (set_tag place target tag) = true
is_site es here children (set_cell_tag place target index tag) = true
is_site es here children (go_to place target) = not (is_dynamic_kind here) || is_enforced es target.name
is_site es here children (fall_to_child place) = any_enforced children

-- What surrounds a command: the entities of its design, and the state in whose body it stands.
pub record Surroundings : Type 0 where
  pub entities : List Entity
  pub home : Home

-- A check site is a step that may be refused, together with the body in which it appears.
pub record CheckSite : Type 0 where
  pub surroundings : Surroundings
  pub command : SimpleCommand

-- The check site that a simple command is, if it is one.
abbrev pub simple_sites : Surroundings → SimpleCommand → List CheckSite
simple_sites h k = let s : CheckSite = record { surroundings = h; command = k } in
    if is_site h.entities h.home.kind h.home.children k then s ∷ [] else []

-- The check sites of a command and of all commands in it, in the order of the text.
abbrev pub command_sites : Surroundings → Command → List CheckSite
command_sites h c = gathered [] ◌++◌ (simple_sites h) c

-- The check sites of all commands of a block, in the order of the text.
abbrev pub block_sites : Surroundings → CommandBlock → List CheckSite
block_sites h block = gathered_in_block [] ◌++◌ (simple_sites h) block

-- The check sites of all commands of an `else`, if there is one.
abbrev pub else_sites : Surroundings → ElseBlock → List CheckSite
else_sites h other = gathered_in_else [] ◌++◌ (simple_sites h) other

-- The check sites of all commands of the arms of a `case`.
abbrev pub arms_sites : Surroundings → Arms → List CheckSite
arms_sites h arms = gathered_in_arms [] ◌++◌ (simple_sites h) arms

-- The check sites of all commands of a list.
abbrev pub list_sites : Surroundings → CommandList → List CheckSite
list_sites h list = gathered_in_list [] ◌++◌ (simple_sites h) list

-- The check sites of a state's own body, without those of its children.
abbrev pub body_sites : List Entity → StateTree → List CheckSite
body_sites es s = block_sites (record { entities = es; home = home_of s }) (body_of s)

-- The check sites of a state's body, and then those of the states below it.
abbrev pub state_sites : List Entity → StateTree → List CheckSite
state_sites es s = gathered_from [] ◌++◌ (body_sites es) s

-- The check sites of these states and of all states below them, in the order of the text.
abbrev pub states_sites : List Entity → StateList → List CheckSite
states_sites es states = gathered_from_list [] ◌++◌ (body_sites es) states

-- The check sites of a design, in the order of the text: their numbers count from 1.
abbrev pub check_sites : DesignTree → List CheckSite
check_sites d = states_sites (entities_of d) d.states
