-- How large programs of nested states are.
use Rattle.std.specs.Prelude.{ℕ, ◌+◌, length}
use Rattle.sap_ir.specs.Plain.Nested.{Body, stop, act, cases, goto, fall, Forest, none, state, Nested, state_names, children_of}
use Rattle.sap_size.specs.Terms.{operations}
use Rattle.sap_size.specs.Flat.{action_weight}

-- The states of a group and all below them.
abbrev pub states_in : Forest → ℕ
states_in f = length (state_names f)

-- The commands of a body in a group: a goto counts the states below its target, whose groups return to their first
-- states.
abbrev pub body_weight : (group : Forest) → Body → ℕ
body_weight group stop = 0
body_weight group (act a rest) = action_weight a + body_weight group rest
body_weight group (cases t then_part else_part rest) =
    3 + operations t + body_weight group then_part + body_weight group else_part + body_weight group rest
body_weight group (goto x rest) = 1 + states_in (children_of group x) + body_weight group rest
body_weight group (fall rest) = 1 + body_weight group rest

-- The states `from` of a group and all below them, each with its body once.
abbrev pub forest_weight : (group from : Forest) → ℕ
forest_weight group none = 0
forest_weight group (state x b kids rest) = 2 + body_weight group b + forest_weight kids kids + forest_weight group rest

-- The weight of a program of nested states: that of its states, its ports, registers and memories.
abbrev pub nested_weight : Nested → ℕ
nested_weight p = forest_weight p.states p.states + length p.ports + length p.registers + length p.memories
