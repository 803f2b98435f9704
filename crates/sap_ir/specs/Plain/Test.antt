-- What the type of programs of nested states keeps, as a test.
use Rattle.std.specs.Prelude.{ℕ, ◌^◌, ◌==◌, ◌&&◌, not, nat_le, Bool, true, List, map}
use Rattle.std.specs.List.{list_all}
use Rattle.sap_maps.specs.Maps.{Name}
use Rattle.sap_maps.specs.Scope.{find}
use Rattle.sap_tree.specs.Words.{is_name}
use Rattle.sap_tree.specs.declared.version.Version.TheVariants.{One}
use Rattle.sap_net.specs.Names.{is_among}
use Rattle.sap_ir.specs.Source.{Source}
use Rattle.sap_ir.specs.IsGuarded.{declared}
use Rattle.sap_ir.specs.Test.{of_shape, value_is_fine, action_is_fine, are_distinct, is_guarded}
use Rattle.sap_ir.specs.Plain.Nested.{Body, stop, act, cases, goto, fall, Forest, none, state, Nested, declarations, has_states, size, group_names, state_names, seats, seat_width}
use Rattle.sap_net.specs.PortNames.{seat_name, root_seat}
use Rattle.sap_ir.specs.Plain.IsPlain.{is_gate, keeps_seats, ends_in_transfers}

-- A body's actions and tests are fine, its `goto`s stay in the group, and it falls only where there are children.
abbrev pub body_is_fine : Source → (fixed group : List Name) → (nested : Bool) → Body → Bool
body_is_fine s fixed group nested stop = true
body_is_fine s fixed group nested (act a rest) =
    action_is_fine s a && keeps_seats fixed a && body_is_fine s fixed group nested rest
body_is_fine s fixed group nested (cases t then_part else_part rest) =
    value_is_fine s t 1 && body_is_fine s fixed group nested then_part
    && body_is_fine s fixed group nested else_part && body_is_fine s fixed group nested rest
body_is_fine s fixed group nested (goto x rest) = is_among x group && body_is_fine s fixed group nested rest
body_is_fine s fixed group nested (fall rest) = nested && body_is_fine s fixed group nested rest

-- A register is declared with the width of a group's numbers and starts with 0.
abbrev pub is_seat : Source → Name → (count : ℕ) → Bool
is_seat s x count =
    of_shape (λ u. u == seat_width count) (λ n. n == 0) (find (map (λ r. (r.name, (r.width, r.start))) s.registers) x)
    && nat_le count (2 ^ seat_width count)

-- A group that has states has its register.
abbrev pub seat_is_fine : Source → Name → Forest → Bool
seat_is_fine s x none = true
seat_is_fine s x (state y b kids rest) = is_seat s x (size (state y b kids rest))

-- Each state of a group, and of all groups below, is fine.
abbrev pub forest_is_fine : Source → (fixed group : List Name) → Forest → Bool
forest_is_fine s fixed group none = true
forest_is_fine s fixed group (state x b kids rest) =
    body_is_fine s fixed group (has_states kids) b && ends_in_transfers b && seat_is_fine s (seat_name x) kids
    && forest_is_fine s fixed (group_names kids) kids && forest_is_fine s fixed group rest

-- The program of nested states is well formed.
unfoldable pub is_plain : Nested → Bool
is_plain p =
    is_guarded (declarations p) && list_all (λ x. not (is_gate x)) (declared (declarations p)) && has_states p.states
    && list_all (is_name One) (state_names p.states) && are_distinct (state_names p.states)
    && seat_is_fine (declarations p) root_seat p.states
    && forest_is_fine (declarations p) (seats p) (group_names p.states) p.states
