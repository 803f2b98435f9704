-- Which memories nested states write in a cycle.
use Rattle.std.specs.Prelude.{ℕ, zero, suc, ◌==◌, List, [], ◌++◌, Option, if◌then◌else◌}
use Rattle.sap_maps.specs.Maps.{Name, Valuation}
use Rattle.sap_net.specs.Names.{AreDistinct}
use Rattle.sap_ir.specs.Source.{width_of}
use Rattle.sap_ir.specs.Guarded.{Going, value_in, after_action, begun}
use Rattle.sap_ir.specs.Writes.{with_memory, WithinBefore, NumbersFit}
use Rattle.sap_ir.specs.Plain.Nested.{Body, stop, act, cases, goto, fall, Forest, none, state, Nested, declarations}
use Rattle.sap_net.specs.PortNames.{seat_name, root_seat}
use Rattle.sap_ir.specs.Plain.Does.{body_does, falls_of, enter}

-- The memories that a body writes, in order. `falls` is what a fall does and `below` what it writes, `goes` what a goto
-- does.
abbrev pub body_writes : (widths : Name → ℕ) → (falls : Going → Going) → (below : Going → List Name)
    → (goes : Name → Going → Going) → Body → Going
    → List Name
body_writes widths falls below goes stop g = []
body_writes widths falls below goes (act a rest) g =
    with_memory a (body_writes widths falls below goes rest (after_action widths g a))
body_writes widths falls below goes (cases t then_part else_part rest) g =
    if value_in widths g t == 0
    then body_writes widths falls below goes else_part g
    ++ body_writes widths falls below goes rest (body_does widths falls goes else_part g)
    else body_writes widths falls below goes then_part g
    ++ body_writes widths falls below goes rest (body_does widths falls goes then_part g)
body_writes widths falls below goes (goto x rest) g = body_writes widths falls below goes rest (goes x g)
body_writes widths falls below goes (fall rest) g = below g ++ body_writes widths falls below goes rest (falls g)

-- Those that the k-th state of a group writes, with those of the states that it falls into.
abbrev pub child_writes : (widths : Name → ℕ) → (goes : Name → Going → Going) → Forest → (k : ℕ) → Going → List Name
child_writes widths goes none k g = []
child_writes widths goes (state x b kids rest) zero g =
    body_writes widths (falls_of widths (seat_name x) kids)
    (λ h. child_writes widths (enter (seat_name x) kids) kids (h.now.value (seat_name x)) h) goes b g
child_writes widths goes (state x b kids rest) (suc k) g = child_writes widths goes rest k g

-- The names that a cycle assigns, in order.
abbrev pub cycle_writes : Nested → (before : Option Valuation) → List ℕ → List Name
cycle_writes p before xs =
    let g = begun (declarations p) before xs in
    child_writes (width_of (declarations p)) (enter root_seat p.states) p.states (g.now.value root_seat) g

-- In no cycle, from any numbers within their widths, is a memory written twice.
abbrev pub PlainWritesOnce : Nested → Type 0
PlainWritesOnce p =
    (before : Option Valuation) (numbers : List ℕ) → WithinBefore (declarations p) before → NumbersFit p.inputs numbers
    → AreDistinct (cycle_writes p before numbers)
