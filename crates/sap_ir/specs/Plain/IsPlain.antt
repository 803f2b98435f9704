-- What the type of programs of nested states keeps.
use Rattle.std.specs.Prelude.{◌≡◌, ℕ, ◌^◌, ◌≤◌, ◌==◌, ◌&&◌, ◌||◌, not, Bool, true, false, List, ◌∷◌, map, Some}
use Rattle.std.specs.Char.{is_ascii_digit}
use Rattle.std.specs.List.{AllByRecursion, list_all}
use Rattle.sap_maps.specs.Maps.{Name}
use Rattle.sap_maps.specs.Scope.{find}
use Rattle.sap_tree.specs.Words.{is_name}
use Rattle.sap_tree.specs.declared.version.Version.TheVariants.{One}
use Rattle.sap_net.specs.Names.{is_among, AreDistinct}
use Rattle.sap_ir.specs.Source.{Action, set, put, Source, readable, shapes}
use Rattle.sap_ir.specs.IsGuarded.{TermFine, ActionFine, declared, IsGuarded}
use Rattle.sap_ir.specs.Plain.Nested.{Body, stop, act, cases, goto, fall, Forest, none, state, Nested, declarations, has_states, size, group_names, state_names, seats, seat_width}
use Rattle.sap_net.specs.PortNames.{seat_name, root_seat}

-- A `g` and digits, which are the names of the wires that flattening adds.
abbrev pub is_gate : Name → Bool
is_gate (c ∷ d ∷ ds) = c == 103 && list_all is_ascii_digit (d ∷ ds)
is_gate _ = false

-- No register of a current child is assigned.
abbrev pub keeps_seats : (fixed : List Name) → Action → Bool
keeps_seats fixed (set x t) = not (is_among x fixed)
keeps_seats fixed (put m i t) = true

-- Names are used as what they are and widths fit; a goto names a state of the same group, whose names are `group`, and
-- a fall stands in a state with children, where `nested` is true.
abbrev pub BodyFine : Source → (fixed group : List Name) → (nested : Bool) → Body → Type 0
BodyFine s fixed group nested stop = Unit {0}
BodyFine s fixed group nested (act a rest) = ActionFine s a × (keeps_seats fixed a ≡ true)
    × BodyFine s fixed group nested rest
BodyFine s fixed group nested (cases t then_part else_part rest) =
    TermFine (shapes s) (readable s) 1 t × BodyFine s fixed group nested then_part
    × BodyFine s fixed group nested else_part × BodyFine s fixed group nested rest
BodyFine s fixed group nested (goto x rest) = (is_among x group ≡ true) × BodyFine s fixed group nested rest
BodyFine s fixed group nested (fall rest) = (nested ≡ true) × BodyFine s fixed group nested rest

-- The body is at its end.
abbrev pub is_stop : Body → Bool
is_stop stop = true
is_stop _ = false

-- A goto or a fall is in it.
abbrev pub transfers : Body → Bool
transfers stop = false
transfers (act a rest) = transfers rest
transfers (cases t then_part else_part rest) = transfers then_part || transfers else_part || transfers rest
transfers (goto x rest) = true
transfers (fall rest) = true

-- Nothing stands behind a goto or a fall, nor behind a choice that has one in a branch.
abbrev pub ends_in_transfers : Body → Bool
ends_in_transfers stop = true
ends_in_transfers (act a rest) = ends_in_transfers rest
ends_in_transfers (cases t then_part else_part rest) =
    ends_in_transfers then_part && ends_in_transfers else_part && ends_in_transfers rest
    && (not (transfers then_part || transfers else_part) || is_stop rest)
ends_in_transfers (goto x rest) = is_stop rest
ends_in_transfers (fall rest) = is_stop rest

-- A register of so many children: it has their width and starts at 0.
abbrev pub IsSeat : Source → Name → (count : ℕ) → Type 0
IsSeat s x count =
    (find {X = ℕ × ℕ} (map (λ r. (r.name, (r.width, r.start))) s.registers) x ≡ Some (seat_width count, 0))
    × (count ≤ 2 ^ seat_width count)

-- The register of a group, where it has states.
abbrev pub SeatFine : Source → Name → Forest → Type 0
SeatFine s x none = Unit {0}
SeatFine s x (state y b kids rest) = IsSeat s x (size (state y b kids rest))

-- The states of a group and all below them.
abbrev pub ForestFine : Source → (fixed group : List Name) → Forest → Type 0
ForestFine s fixed group none = Unit {0}
ForestFine s fixed group (state x b kids rest) =
    BodyFine s fixed group (has_states kids) b × (ends_in_transfers b ≡ true) × SeatFine s (seat_name x) kids
    × ForestFine s fixed (group_names kids) kids × ForestFine s fixed group rest

-- A program of nested states is well formed: its declarations are, no name is a gate's, states have distinct names,
-- each group has its register, and each body is fine.
pub record IsPlain (p : Nested) : Type 0 where
  -- names, widths and first numbers, as in a flat program
  pub declares : IsGuarded (declarations p)
  pub not_gates : AllByRecursion (λ x. is_gate x ≡ false) (declared (declarations p))
  -- there is a state, and states have names of their own, which the first version of the design language takes as names
  pub some_state : has_states p.states ≡ true
  pub states_named : AllByRecursion (λ x. is_name One x ≡ true) (state_names p.states)
  pub states_differ : AreDistinct (state_names p.states)
  -- the root's register, and all states
  pub root : SeatFine (declarations p) root_seat p.states
  pub states_fine : ForestFine (declarations p) (seats p) (group_names p.states) p.states
