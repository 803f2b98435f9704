-- What a command touches: the dynamic entities whose tags tell whether it ran.
use Rattle.std.specs.Prelude.{ℕ, Bool, true, false, ◌&&◌, ◌||◌, List}
use Rattle.std.specs.List.{list_any}
use Rattle.std.specs.Str.{bytes_eq}
use Rattle.sap_tree.specs.Syntax.{SimpleCommand, assign, write, set_tag, set_cell_tag, go_to, fall_to_child, Command, Arms, CommandBlock, ElseBlock, CommandList, StateTree, state_node, StateList, no_state, and_state, DesignTree}
use Rattle.sap_tree.specs.Walks.{some, some_in_block, some_in_else, some_in_arms, some_in_list, body_of, gathered_from, gathered_from_list}
use Rattle.sap_tree.specs.declared.syntax.Decl.TheVariants as d
use Rattle.sap_tree.specs.declared.syntax.Decl.{Decl}
use Rattle.sap_tree.specs.declared.syntax.Kind.TheVariants as k
use Rattle.sap_tree.specs.declared.syntax.Kind.{Kind}

-- dynamic entities

-- `is_dynamic_kind` says whether a kind is dynamic.
abbrev pub is_dynamic_kind : Kind → Bool
is_dynamic_kind (k.Dynamic place) = true
is_dynamic_kind (k.Enforced level authority) = false

-- Whether x is declared here as a dynamic register or memory.
abbrev pub declares_dynamic : List ℕ → Decl → Bool
declares_dynamic x (d.Input place name width) = false
declares_dynamic x (d.Register place name width kind start) = bytes_eq name.name x && is_dynamic_kind kind
declares_dynamic x (d.Memory place name width depth kind) = bytes_eq name.name x && is_dynamic_kind kind

-- This is the name of a dynamic register or memory of these declarations.
unfoldable pub is_dynamic_store : List Decl → List ℕ → Bool
is_dynamic_store declarations x = list_any (declares_dynamic x) declarations

-- Whether x is one of these states and dynamic.
unfoldable pub is_dynamic_child : StateList → List ℕ → Bool
is_dynamic_child no_state x = false
is_dynamic_child (and_state (state_node place name kind body children) states) x =
    (bytes_eq name.name x && is_dynamic_kind kind) || is_dynamic_child states x

-- whether a command assigns x, as a register or as a memory

-- A step assigns or writes the register or memory of this name.
abbrev pub simple_assigns : SimpleCommand → List ℕ → Bool
simple_assigns (assign register e) x = bytes_eq register.name x
simple_assigns (write memory index e) x = bytes_eq memory.name x
simple_assigns (set_tag place name n) x = false
simple_assigns (set_cell_tag place memory index n) x = false
simple_assigns (go_to place target) x = false
simple_assigns (fall_to_child place) x = false

-- A command, or one in its blocks, assigns or writes the register or memory of this name.
unfoldable pub assigns : Command → List ℕ → Bool
assigns c x = some (λ k. simple_assigns k x) c

-- A command of this block assigns or writes the register or memory of this name.
unfoldable pub block_assigns : CommandBlock → List ℕ → Bool
block_assigns block x = some_in_block (λ k. simple_assigns k x) block

-- A command of this `else` assigns or writes the register or memory of this name.
unfoldable pub else_assigns : ElseBlock → List ℕ → Bool
else_assigns other x = some_in_else (λ k. simple_assigns k x) other

-- A command of these arms assigns or writes the register or memory of this name.
unfoldable pub arms_assign : Arms → List ℕ → Bool
arms_assign arms x = some_in_arms (λ k. simple_assigns k x) arms

-- A command of this list assigns or writes the register or memory of this name.
unfoldable pub list_assigns : CommandList → List ℕ → Bool
list_assigns list x = some_in_list (λ k. simple_assigns k x) list

-- Whether the body of one of these states or of their descendants assigns x.
unfoldable pub state_assigns : StateTree → List ℕ → Bool
state_assigns s x = gathered_from false ◌||◌ (λ s. block_assigns (body_of s) x) s

-- A command in the bodies of these states or of their descendants assigns or writes what has this name.
unfoldable pub states_assign : StateList → List ℕ → Bool
states_assign states x = gathered_from_list false ◌||◌ (λ s. block_assigns (body_of s) x) states

-- A command stands in the body of a state, which is its home.
pub record Home : Type 0 where
  pub name : List ℕ
  pub kind : Kind
  pub children : StateList

-- What a body's commands know of their own state: its name, its kind and its children.
abbrev pub home_of : StateTree → Home
home_of (state_node place name kind body children) = record { name = name.name; kind = kind; children = children }

-- What a `fall` into one of these states touches: the dynamic ones of them, and each dynamic register or memory that
-- they or their descendants assign.
unfoldable pub fall_touches : List Decl → StateList → List ℕ → Bool
fall_touches declarations states x = is_dynamic_child states x
    || (is_dynamic_store declarations x && states_assign states x)

-- A step touches a dynamic entity: its own target, with `goto` the state in which it appears, and with `fall` what the
-- children touch.
unfoldable pub simple_touches : List Decl → Home → SimpleCommand → List ℕ → Bool
simple_touches declarations home (assign register e) x = is_dynamic_store declarations x && bytes_eq register.name x
simple_touches declarations home (write memory index e) x = is_dynamic_store declarations x && bytes_eq memory.name x
simple_touches declarations home (set_tag place name n) x = false
simple_touches declarations home (set_cell_tag place memory index n) x = false
simple_touches declarations home (go_to place target) x = is_dynamic_kind home.kind && bytes_eq home.name x
simple_touches declarations home (fall_to_child place) x = fall_touches declarations home.children x

-- A command, or one in its blocks, touches the entity of this name.
unfoldable pub touches : List Decl → Home → Command → List ℕ → Bool
touches declarations home c x = some (λ k. simple_touches declarations home k x) c

-- A command of this block touches the entity of this name.
unfoldable pub block_touches : List Decl → Home → CommandBlock → List ℕ → Bool
block_touches declarations home block x = some_in_block (λ k. simple_touches declarations home k x) block

-- A command of this `else` touches the entity of this name.
unfoldable pub else_touches : List Decl → Home → ElseBlock → List ℕ → Bool
else_touches declarations home other x = some_in_else (λ k. simple_touches declarations home k x) other

-- A command of these arms touches the entity of this name.
unfoldable pub arms_touch : List Decl → Home → Arms → List ℕ → Bool
arms_touch declarations home arms x = some_in_arms (λ k. simple_touches declarations home k x) arms

-- A command of this list touches the entity of this name.
unfoldable pub list_touches : List Decl → Home → CommandList → List ℕ → Bool
list_touches declarations home list x = some_in_list (λ k. simple_touches declarations home k x) list

-- The root's `fall` touches the entity of this name.
abbrev pub root_touches : DesignTree → List ℕ → Bool
root_touches design x = fall_touches design.declarations design.states x
