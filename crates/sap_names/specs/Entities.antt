-- The entities of a design: its inputs, registers, memories and states, in the order of the text.
use Rattle.std.specs.Prelude.{◌≤◌, ℕ, List, [], ◌∷◌, ◌++◌, Option, Some, None, Bool, true, false, not, bytes_eq, ◌+◌, if◌then◌else◌, option_map, unwrap_or, map, find as list_find}
use Rattle.std.specs.List.{AllByRecursion}
use Rattle.sap_names.specs.declared.kind.Declared.{Declared}
use Rattle.sap_names.specs.declared.kind.Declared.TheVariants as what
use Rattle.sap_names.specs.declared.kind.EntityKind.{EntityKind}
use Rattle.sap_names.specs.declared.kind.EntityKind.TheVariants as kinds
use Rattle.sap_tree.specs.declared.syntax.Decl.{Decl}
use Rattle.sap_tree.specs.declared.syntax.Decl.TheVariants.{Input, Register, Memory}
use Rattle.sap_tree.specs.Syntax.{StateTree, state_node, StateList, no_state, and_state, DesignTree}
pub use Rattle.sap_tree.specs.Touches.{is_dynamic_kind}
-- a declared name: where it is declared, what it is, and whether it is dynamic, as inputs are
pub use Rattle.sap_names.specs.declared.entity.Entity.{Entity}

-- The entity that a declaration declares.
abbrev pub entity_of : Decl → Entity
entity_of (Input place name width) = record { name = name; what = what.Input width.value; dynamic = true }
entity_of (Register place name width kind start) =
    record { name = name; what = what.Register width.value; dynamic = is_dynamic_kind kind }
entity_of (Memory place name width depth kind) =
    record { name = name; what = what.Memory width.value depth.value; dynamic = is_dynamic_kind kind }

-- The entities of the declarations, in order.
abbrev pub declared_in : List Decl → List Entity
declared_in ds = map entity_of ds

-- The entities of a state and of all below it, a state before its children; and those of a list of states.
abbrev mutual
  pub state_entities : StateTree → List Entity
  state_entities (state_node place name kind body children) =
      let e : Entity = record { name = name; what = what.State; dynamic = is_dynamic_kind kind } in
      e ∷ group_entities children

  pub group_entities : StateList → List Entity
  group_entities no_state = []
  group_entities (and_state s rest) = state_entities s ++ group_entities rest

-- The entities of a design: those of its declarations, and then its states.
abbrev pub entities_of : DesignTree → List Entity
entities_of d = declared_in d.declarations ++ group_entities d.states

-- A look-up says what is declared of a name, if anything.
abbrev pub Lookup : Type 0
Lookup = List ℕ → Option Declared

-- The first entity of this name, if there is one.
abbrev pub find : List Entity → List ℕ → Option Entity
find es name = list_find (λ e. bytes_eq e.name.name name) es

-- The number of a name, from 0 in the order of the text, if it is declared.
abbrev pub number_of : List Entity → List ℕ → Option ℕ
number_of [] name = None
number_of (e ∷ es) name = if bytes_eq e.name.name name then Some 0 else option_map (λ n. n + 1) (number_of es name)

-- The number of a name, from 0 in the order of the text, and 0 for a name that is declared nowhere.
abbrev pub entity_number : List Entity → List ℕ → ℕ
entity_number es name = unwrap_or (number_of es name) 0

-- What the entity of a name is, if there is one: the first of the name.
abbrev pub what_is : List Entity → Lookup
what_is es name = option_map (λ e. e.what) (find es name)

-- There is an entity, and it is dynamic, as inputs are.
abbrev pub dynamic_of : Option Entity → Bool
dynamic_of None = false
dynamic_of (Some e) = e.dynamic

-- There is an entity, and it is enforced.
abbrev pub enforced_of : Option Entity → Bool
enforced_of None = false
enforced_of (Some e) = not e.dynamic

-- What an entity is, without its widths.
abbrev pub kind_of_declared : Declared → EntityKind
kind_of_declared (what.Input width) = kinds.Input
kind_of_declared (what.Register width) = kinds.Register
kind_of_declared (what.Memory width depth) = kinds.Memory
kind_of_declared what.State = kinds.State

-- The declared width, 0 for a state.
abbrev pub declared_width : Declared → ℕ
declared_width (what.Input width) = width
declared_width (what.Register width) = width
declared_width (what.Memory width depth) = width
declared_width what.State = 0

-- An entity that is no state has a width from 1 to 64.
abbrev pub HasWidth : Declared → Type 0
HasWidth (what.Input width) = (1 ≤ width) × (width ≤ 64)
HasWidth (what.Register width) = (1 ≤ width) × (width ≤ 64)
HasWidth (what.Memory width depth) = (1 ≤ width) × (width ≤ 64)
HasWidth what.State = Unit {0}

-- Each entity that has a width has one from 1 to 64.
abbrev pub HaveWidths : List Entity → Type 0
HaveWidths es = AllByRecursion (λ e. HasWidth e.what) es
