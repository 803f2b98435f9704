-- What a program of nested states is seen as.
use Rattle.std.specs.Prelude.{ℕ, zero, suc, ◌+◌, ◌^◌, nat_le, Bool, true, false, List, [], ◌∷◌, ◌++◌, map, if◌then◌else◌}
use Rattle.std.specs.Str.{bytes_eq}
use Rattle.sap_maps.specs.Maps.{Name}
use Rattle.sap_maps.specs.Term.{Term}
use Rattle.sap_net.specs.PortNames.{seat_name, root_seat}
use Rattle.sap_ir.specs.declared.guarded.Var.{Var}
use Rattle.sap_ir.specs.declared.guarded.MemoryVariable.{MemoryVariable}
use Rattle.sap_ir.specs.Source.{Action, Source}

-- The commands of a state, each with those behind it.
pub data Body : Type 0 where
  stop : Body
  -- an assignment or a write
  act : Action → (rest : Body) → Body
  -- `then_part` where the test isn't 0, else `else_part`
  cases : (test : Term Name) → (then_part else_part rest : Body) → Body
  -- a state of the same group becomes the current one
  goto : (target : Name) → (rest : Body) → Body
  -- the current child's body is done
  fall : (rest : Body) → Body

-- The states of a group: one with its name, its body and the group of its children, before the others.
pub data Forest : Type 0 where
  none : Forest
  state : Name → Body → (children others : Forest) → Forest

-- `ports` are the registers and wires that are output ports, in order; `states` is the group of the top-level states.
pub record Nested : Type 0 where
  pub inputs : List Var
  pub wires : List Var
  pub registers : List Var
  pub memories : List MemoryVariable
  pub ports : List Name
  pub states : Forest

-- What it declares, without states.
abbrev pub declarations : Nested → Source
declarations p =
    record {
      inputs = p.inputs;
      wires = p.wires;
      registers = p.registers;
      memories = p.memories;
      ports = p.ports;
      commands = [];
    }

-- There is a state.
abbrev pub has_states : Forest → Bool
has_states none = false
has_states (state x b kids rest) = true

-- How many states stand side by side.
abbrev pub size : Forest → ℕ
size none = 0
size (state x b kids rest) = suc (size rest)

-- The names of a group's states.
abbrev pub group_names : Forest → List Name
group_names none = []
group_names (state x b kids rest) = x ∷ group_names rest

-- The names of all states, those below each one behind it.
abbrev pub state_names : Forest → List Name
state_names none = []
state_names (state x b kids rest) = x ∷ (state_names kids ++ state_names rest)

-- The number of a state in its group.
abbrev pub place : Forest → Name → ℕ
place none x = 0
place (state y b kids rest) x = if bytes_eq y x then 0 else suc (place rest x)

-- The children of a state of a group.
abbrev pub children_of : Forest → Name → Forest
children_of none x = none
children_of (state y b kids rest) x = if bytes_eq y x then kids else children_of rest x

-- Registers of current children: that of a state and that of the root have the number of the current one of its group.
abbrev pub seats : Nested → List Name
seats p = root_seat ∷ map seat_name (state_names p.states)

-- The first of some widths, from u on, that holds so many numbers from 0.
abbrev pub width_from : (more u count : ℕ) → ℕ
width_from zero u count = u
width_from (suc k) u count = if nat_le count (2 ^ u) then u else width_from k (u + 1) count

-- The least width of 1 or more, and of at most 64, that can hold the number of each of so many children.
unfoldable pub seat_width : (count : ℕ) → ℕ
seat_width count = width_from 63 1 count
