-- What nested states do: in each cycle the body of the current top-level state is done, and, where it falls, that of
-- its current child.
use Rattle.std.specs.Prelude.{ℕ, zero, suc, ◌==◌, List, [], ◌∷◌, Option, Some, None, if◌then◌else◌}
use Rattle.sap_maps.specs.Maps.{Name, Valuation, set_value}
use Rattle.sap_ir.specs.Source.{width_of}
use Rattle.sap_ir.specs.Guarded.{Going, value_in, after_action, begun, ended}
use Rattle.sap_ir.specs.Plain.Nested.{Body, stop, act, cases, goto, fall, Forest, none, state, Nested, declarations, place, children_of}
use Rattle.sap_net.specs.PortNames.{seat_name, root_seat}

-- Another number for one name.
abbrev pub put_value : Going → Name → ℕ → Going
put_value g n x = record { now = set_value g.now n x; next = g.next }

-- A state returns to its first child, where it has children.
abbrev pub first_child : Name → (children : Forest) → Going → Going
first_child x none g = g
first_child x (state y b kids rest) g = put_value g (seat_name x) 0

-- Each group below the states of a group returns to its first state.
abbrev pub restart : Forest → Going → Going
restart none g = g
restart (state x b kids rest) g = restart rest (restart kids (first_child x kids g))

-- A state of a group becomes the current one, and each group below it returns to its first state. `seat` is the group's
-- register.
abbrev pub enter : (seat : Name) → (group : Forest) → (target : Name) → Going → Going
enter seat group x g =
    let kids = children_of group x in restart kids (first_child x kids (put_value g seat (place group x)))

-- `falls` is what a fall does, and `goes` what a goto does.
abbrev pub body_does : (widths : Name → ℕ) → (falls : Going → Going) → (goes : Name → Going → Going)
    → Body → Going → Going
body_does widths falls goes stop g = g
body_does widths falls goes (act a rest) g = body_does widths falls goes rest (after_action widths g a)
body_does widths falls goes (cases t then_part else_part rest) g =
    body_does widths falls goes rest (if value_in widths g t == 0
    then body_does widths falls goes else_part g else body_does widths falls goes then_part g)
body_does widths falls goes (goto x rest) g = body_does widths falls goes rest (goes x g)
body_does widths falls goes (fall rest) g = body_does widths falls goes rest (falls g)

-- The body of the k-th state of a group. A fall does that of the child which the state's register names at that moment;
-- a register that names no child does nothing.
abbrev pub child_does : (widths : Name → ℕ) → (goes : Name → Going → Going) → Forest → (k : ℕ) → Going → Going
child_does widths goes none k g = g
child_does widths goes (state x b kids rest) zero g =
    body_does widths (λ h. child_does widths (enter (seat_name x) kids) kids (h.now.value (seat_name x)) h) goes b g
child_does widths goes (state x b kids rest) (suc k) g = child_does widths goes rest k g

-- A state's fall.
abbrev pub falls_of : (widths : Name → ℕ) → (seat : Name) → (group : Forest) → Going → Going
falls_of widths seat group g = child_does widths (enter seat group) group (g.now.value seat) g

-- One cycle, which begins as that of a flat program.
abbrev pub cycle : Nested → (before : Option Valuation) → List ℕ → Valuation
cycle p before xs = ended (falls_of (width_of (declarations p)) root_seat p.states (begun (declarations p) before xs))

-- One list of inputs a cycle.
abbrev pub run_after : Nested → (before : Option Valuation) → List (List ℕ) → List Valuation
run_after p before [] = []
run_after p before (xs ∷ xss) = let v = cycle p before xs in v ∷ run_after p (Some v) xss

-- The cycles of a run of nested states from power-up.
abbrev pub plain_run : Nested → List (List ℕ) → List Valuation
plain_run p xss = run_after p None xss
