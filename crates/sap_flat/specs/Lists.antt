-- The assignments that lists of commands and of states become.
use Rattle.std.specs.Prelude.{ℕ, List, [], ◌∷◌}
use Rattle.sap_maps.specs.Maps.{Name}
use Rattle.sap_maps.specs.Term.{Term, read}
use Rattle.sap_ir.specs.Source.{set, Command}
use Rattle.sap_ir.specs.declared.plain.nested.PlainCmd.{PlainCmd}
use Rattle.sap_ir.specs.declared.plain.nested.PlainState.{PlainState}
use Rattle.sap_ir.specs.Plain.Nested.{stop, none, place}
use Rattle.sap_ir.specs.Plain.Views.{command_before, body_of, state_before, forest_of}
use Rattle.sap_flat.specs.Gates.{gate_name}
use Rattle.sap_flat.specs.Flat.{Flat, under, is_number, flat_first, flat_restart, flat_goto, flat_body, flat_gates, flat_group}

-- The commands with which a group begins.
unfoldable pub first_commands : (j : ℕ) → Name → List PlainState → List Command
first_commands j x ss = flat_first j x (forest_of ss)

-- The commands by which groups below start anew.
unfoldable pub restart_commands : (j : ℕ) → List PlainState → List Command
restart_commands j ss = flat_restart j (forest_of ss)

-- The commands by which a state's group starts anew.
unfoldable pub restart_one : (j : ℕ) → PlainState → List Command
restart_one j s = flat_restart j (state_before s none)

-- The place of a state among its group.
unfoldable pub place_in : List PlainState → Name → ℕ
place_in ss x = place (forest_of ss) x

-- The commands of a `goto`.
unfoldable pub goto_commands : (seat : Name) → List PlainState → (j : ℕ) → Name → List Command
goto_commands seat ss j x = flat_goto seat (forest_of ss) j x

-- The two gates of a choice.
unfoldable pub choice_commands : (j : ℕ) → Term Name → (first second : ℕ) → List Command
choice_commands j t a b = under j (set (gate_name a) t)
    ∷ under j (set (gate_name b) (is_number (read (gate_name a)) 1 0)) ∷ []

-- The commands of stored commands.
unfoldable pub commands_flat : (seat : Name) → List PlainState → (fell : ℕ) → List PlainCmd → (j k : ℕ) → Flat
commands_flat seat ss fell cs j k = flat_body seat (forest_of ss) fell (body_of cs) j k

-- The commands of a stored command.
unfoldable pub command_flat : (seat : Name) → List PlainState → (fell : ℕ) → PlainCmd → (j k : ℕ) → Flat
command_flat seat ss fell c j k = flat_body seat (forest_of ss) fell (command_before c stop) j k

-- The commands of the gates of a group.
unfoldable pub gates_commands : (when : Term Name) → (seat : Name) → (width : ℕ) → List PlainState
    → (i j : ℕ) → List Command
gates_commands c seat u ss i j = flat_gates c seat u (forest_of ss) i j

-- The commands of stored states.
unfoldable pub states_flat : (seat : Name) → (group from : List PlainState) → (j k : ℕ) → Flat
states_flat seat group ss j k = flat_group seat (forest_of group) (forest_of ss) j k

-- The commands of a stored state.
unfoldable pub state_flat : (seat : Name) → (group : List PlainState) → PlainState → (j k : ℕ) → Flat
state_flat seat group s j k = flat_group seat (forest_of group) (state_before s none) j k
